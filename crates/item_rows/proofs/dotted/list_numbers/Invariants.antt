use Rattle.std.proofs.Common.{◌≡◌, ◌<◌, ℕ, length, slice_get, Some}
use Rattle.recognizer_model.specs.declared.Item.{Item}
use Rattle.item_rows.proofs.dotted.list_numbers.Given as goal

abbrev pub invariant-loop-item : goal.invariant-loop-item
invariant-loop-item l = record {
  size : length l.numbers.items ≡ l.item-index;
  are : (k : ℕ) (item : Item) → k < l.item-index → slice_get l.listed k ≡ Some item → (n : ℕ) × (slice_get l.numbers.items k ≡ Some n) × (slice_get l.rules n ≡ Some item);
}
