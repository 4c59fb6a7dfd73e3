use Rattle.std.proofs.Common.{◌≡◌}
use Rattle.base_tests.proofs.plays.add_names.Given as goal

abbrev pub invariant-loop-name : goal.invariant-loop-name
invariant-loop-name l = l.w.rules ≡ l.initial.w.rules
