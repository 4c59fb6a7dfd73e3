use Rattle.std.proofs.Common.{◌≡◌, take}
use Rattle.grammar_tests.proofs.leo.waiting_in.Given as goal

abbrev pub invariant-loop-k : goal.invariant-loop-k
invariant-loop-k l = l.items.items ≡ take l.k l.set
