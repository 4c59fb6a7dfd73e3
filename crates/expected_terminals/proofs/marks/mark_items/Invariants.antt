use Rattle.std.proofs.Common.{◌≡◌, ◌<◌, ◌↔◌, ℕ, Some, slice_get, Contains}
use Rattle.recognizer_model.specs.declared.Item.{Item}
use Rattle.expected_terminals.specs.Marks.{WaitsFor, HasRoom, AreMarked}
use Rattle.expected_terminals.proofs.marks.mark_items.Given as goal

abbrev pub invariant-loop-k : goal.invariant-loop-k
invariant-loop-k l =
    HasRoom l.flat l.marks × AreMarked l.flat l.mark l.marks.rows.items l.marks.listed.items
    × ((t : ℕ) → Contains l.marks.listed.items t ↔ ((i : ℕ) × (item : Item) × (i < l.k) × (slice_get l.items i ≡ Some item) × WaitsFor l.flat item t))
