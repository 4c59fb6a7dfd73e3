use Rattle.slif_parser.proofs.grammar.Grammar.read.Given as goal

abbrev pub ghosts-read_bytes : goal.ghosts-read_bytes
ghosts-read_bytes a = record { name = a.blank.name; parts = a.blank.parts }
