use Rattle.std.proofs.Common.{◌≡◌, ◌+◌, ◌≤◌, length}
use Rattle.recognizer_model.specs.Invariant.{IsFlat}
use Rattle.item_rows.specs.Kept.{AreRows}
use Rattle.leo_items.specs.ByRows.{NotesMore}
use Rattle.leo_items.proofs.Chains.{IsNotable}
use Rattle.leo_items.proofs.Falling.{far}
use Rattle.leo_items.proofs.Ways.{IsAtOrNoted}
use Rattle.leo_items.proofs.chain.note.Given as goal

abbrev pub invariant-loop : goal.invariant-loop
invariant-loop g l = record {
  memo : NotesMore l.flat l.rows.sets l.initial.memo l.memo;
  counted : l.steps + length l.initial.memo ≡ l.initial.steps + length l.memo;
  noted : IsAtOrNoted l.memo l.pair l.fn.pair l.fn.top;
  notable : (are : AreRows l.flat l.rows.sets) → IsNotable l.flat l.rows.sets are l.pair l.fn.top;
  short : (flat : IsFlat l.flat) → l.counter + far l.flat flat l.pair.set l.pair.symbol ≤ 18446744069414584319;
}
