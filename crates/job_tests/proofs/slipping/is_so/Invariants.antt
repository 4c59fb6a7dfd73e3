use Rattle.job_tests.proofs.slipping.is_so.Given as goal

abbrev pub ghosts-is_so_with : goal.ghosts-is_so_with
ghosts-is_so_with a = record { name = a.blank.name; parts = a.blank.parts }
