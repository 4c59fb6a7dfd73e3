-- Sequences with a nullable item or separator.
use Rattle.std.specs.Prelude.{ℕ, ◌<◌}
use Rattle.grammar_model.specs.Grammar.{Grammar, SequenceRule, Sequence, slot_count, child_slot}
use Rattle.grammar_model.specs.Analysis.{IsNullable}

abbrev pub HasNullable : Grammar → SequenceRule → Type 0
HasNullable g r = (k : ℕ) × (k < slot_count (Sequence r)) × IsNullable g (child_slot (Sequence r) k)
