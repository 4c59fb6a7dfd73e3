use Rattle.slif_parser.proofs.grammar.Grammar.read_with.Given as goal

abbrev pub ghosts-read_bytes_with : goal.ghosts-read_bytes_with
ghosts-read_bytes_with g a = record { name = a.blank.name; parts = a.blank.parts }
