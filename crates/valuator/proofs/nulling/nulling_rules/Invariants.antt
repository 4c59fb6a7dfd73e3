use Rattle.valuator.specs.Nulling.{AreFirst}
use Rattle.valuator.proofs.nulling.nulling_rules.Given as goal

abbrev pub invariant-loop-i : goal.invariant-loop-i
invariant-loop-i l = AreFirst l.w l.i l.rules.items
