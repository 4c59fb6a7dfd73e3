use Rattle.std.proofs.Common.{ℕ, ◌<◌}
use Rattle.std.specs.Prelude.{slice_index_or}
use Rattle.recognizer_model.specs.declared.Item.{Item}
use Rattle.item_sets.specs.Held.{place_of}
use Rattle.item_sets.proofs.item_set.marks_of.Given as goal

abbrev pub invariant-loop-number : goal.invariant-loop-number
invariant-loop-number l = (k : ℕ) (d : Item) → k < l.number → 0 < slice_index_or l.marks.items (place_of (slice_index_or l.items k d)) 1
