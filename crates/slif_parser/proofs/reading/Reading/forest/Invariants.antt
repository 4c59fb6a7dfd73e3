use Rattle.slif_parser.proofs.reading.Reading.forest.Given as goal

abbrev pub ghosts-forest_with : goal.ghosts-forest_with
ghosts-forest_with a = record { name = a.blank.name; parts = a.blank.parts }
