use Rattle.std.proofs.Common.{◌≡◌, ◌++◌, drop}
use Rattle.base_tests.proofs.plays.symbols.Given as goal

abbrev pub invariant-loop-part : goal.invariant-loop-part
invariant-loop-part l = l.parts ≡ l.symbols.items ++ drop l.part-index l.parts
