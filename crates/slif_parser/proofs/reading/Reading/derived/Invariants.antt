use Rattle.slif_parser.proofs.reading.Reading.derived.Given as goal

abbrev pub ghosts-derived_with : goal.ghosts-derived_with
ghosts-derived_with a = record { name = a.blank.name; parts = a.blank.parts }
