use Rattle.language_tests.proofs.outside.counts.Given as goal

abbrev pub ghosts-ticks : goal.ghosts-ticks
ghosts-ticks a = record { name = a.blank.name; parts = a.blank.parts }
