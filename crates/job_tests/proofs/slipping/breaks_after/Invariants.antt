use Rattle.job_tests.proofs.slipping.breaks_after.Given as goal

abbrev pub ghosts-breaks_with : goal.ghosts-breaks_with
ghosts-breaks_with a = record { name = a.blank.name; parts = a.blank.parts }
