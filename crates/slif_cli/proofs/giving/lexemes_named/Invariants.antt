use Rattle.std.proofs.Common.{ℕ, List}
use Rattle.slif_cli.proofs.Named.{AreSoFar, Yields}
use Rattle.slif_cli.proofs.giving.lexemes_named.Given as goal

abbrev pub invariant-loop-name : goal.invariant-loop-name
invariant-loop-name l = (left : List (List ℕ)) × Yields l.name-iterator left × AreSoFar l.prepared l.fn.names l.lexemes.items left
