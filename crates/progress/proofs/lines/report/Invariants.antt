use Rattle.progress.proofs.lines.report.Given as goal

abbrev pub ghosts-items_of : goal.ghosts-items_of
ghosts-items_of a = record { name = a.blank.name; parts = a.blank.parts }
