use Rattle.std.proofs.Common.{◌≡◌, ◌≤◌, ◌++◌, List, length, Contains}
use Rattle.recognizer_model.specs.declared.Item.{Item}
use Rattle.forest_parts.proofs.Taking.{AreUnaskedTo, LeadBack}
use Rattle.forest_parts.proofs.unasked.note_unasked.Given as goal

abbrev pub invariant-loop-k : goal.invariant-loop-k
invariant-loop-k l = record {
  few : l.k ≤ length l.unasked.keys;
  begins : (more : List Item) × (l.unasked.keys ≡ l.fn.unasked.keys ++ more);
  there : Contains l.unasked.keys l.item;
  upto : AreUnaskedTo l.w l.ranking l.recce l.keys.keys l.end l.unasked.keys l.k;
  same : l.asked.keys ≡ l.fn.asked.keys;
  back : LeadBack l.w l.ranking l.recce l.keys.keys l.end l.fn.unasked.keys l.unasked.keys l.item;
}
