use Rattle.job_tests.proofs.slipping.begins_so.Given as goal

abbrev pub ghosts-begins_with : goal.ghosts-begins_with
ghosts-begins_with a = record { name = a.blank.name; parts = a.blank.parts }
