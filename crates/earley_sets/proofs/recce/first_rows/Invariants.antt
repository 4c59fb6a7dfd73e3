use Rattle.earley_sets.proofs.recce.first_rows.Given as goal

abbrev pub ghosts-add_first : goal.ghosts-add_first
ghosts-add_first a = record { name = a.blank.name; parts = a.blank.parts }
