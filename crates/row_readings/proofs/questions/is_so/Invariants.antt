use Rattle.row_readings.proofs.questions.is_so.Given as goal

abbrev pub ghosts-reads_with : goal.ghosts-reads_with
ghosts-reads_with g a = record { name = a.blank.name; parts = a.blank.parts }
