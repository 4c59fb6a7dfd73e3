use Rattle.slif_parser.proofs.derivations.Derivations.go_to.Given as goal

abbrev pub ghosts-jump_with : goal.ghosts-jump_with
ghosts-jump_with a = record { name = a.blank.name; parts = a.blank.parts }
