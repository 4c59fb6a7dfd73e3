use Rattle.std.proofs.Common.{◌≡◌, ◌≤◌, ◌+◌, ◌-◌, length}
use Rattle.language_model.specs.Actions.{items_named, between_commas}
use Rattle.value_text.proofs.Descriptors.{left_items, with_prefix}
use Rattle.value_text.proofs.descriptor.items_of.Given as goal

abbrev pub invariant-loop-from : goal.invariant-loop-from
invariant-loop-from l = (l.from ≤ length l.text + 1) × (with_prefix l.items.items (left_items l.text l.from) ≡ items_named (between_commas l.text))

abbrev pub decreases-loop-from : goal.decreases-loop-from
decreases-loop-from l = length l.text + 1 - l.from
