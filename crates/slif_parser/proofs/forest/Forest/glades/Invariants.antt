use Rattle.slif_parser.proofs.forest.Forest.glades.Given as goal

abbrev pub ghosts-glades_with : goal.ghosts-glades_with
ghosts-glades_with a = record { name = a.blank.name; parts = a.blank.parts }
