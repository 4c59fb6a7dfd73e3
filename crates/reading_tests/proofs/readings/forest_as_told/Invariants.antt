use Rattle.reading_tests.proofs.readings.forest_as_told.Given as goal

abbrev pub ghosts-told_with : goal.ghosts-told_with
ghosts-told_with a = record { name = a.blank.name; parts = a.blank.parts }
