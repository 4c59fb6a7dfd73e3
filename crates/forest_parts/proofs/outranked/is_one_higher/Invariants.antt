use Rattle.std.proofs.Common.{ℕ, ◌≤◌, ◌<◌}
use Rattle.forest_parts.specs.Unasked.{IsHigher}
use Rattle.forest_parts.proofs.outranked.is_one_higher.Given as goal

abbrev pub invariant-loop-rule : goal.invariant-loop-rule
invariant-loop-rule l = record {
  low : l.first ≤ l.rule;
  none : (r : ℕ) → l.first ≤ r → r < l.rule → ¬ IsHigher l.w l.recce l.end l.item r;
}
