use Rattle.slot_analysis.specs.Packed.{HoldsLevels}
use Rattle.slot_analysis.proofs.levels.push_rules.Given as goal

abbrev pub invariant-loop-i : goal.invariant-loop-i
invariant-loop-i l = HoldsLevels l.w l.i l.rows
