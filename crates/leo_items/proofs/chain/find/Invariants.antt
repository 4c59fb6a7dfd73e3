use Rattle.std.proofs.Common.{◌+◌, ◌≤◌}
use Rattle.recognizer_model.specs.Flat.{lhs_of}
use Rattle.recognizer_model.specs.Invariant.{IsFlat}
use Rattle.item_rows.specs.Kept.{AreRows}
use Rattle.leo_items.proofs.Chains.{IsPassed}
use Rattle.leo_items.proofs.Falling.{far}
use Rattle.leo_items.proofs.Ways.{LeadsFrom}
use Rattle.leo_items.proofs.chain.find.Given as goal

abbrev pub invariant-loop-walked : goal.invariant-loop-walked
invariant-loop-walked l = record {
  passed : (are : AreRows l.flat l.rows.sets) → IsPassed l.flat l.rows.sets are l.fn.pair.set l.fn.pair.symbol l.top;
  way : LeadsFrom l.flat l.rows.sets l.memo l.fn.step l.walked l.top;
  short : (flat : IsFlat l.flat) → l.walked + far l.flat flat l.top.origin (lhs_of l.flat l.top.rule) ≤ 18446744069414584319;
}
