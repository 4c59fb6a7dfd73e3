-- What a written rule says beside its left side, its level and its rank.
use Rattle.std.specs.Prelude.{ℕ, Bool, true, false}
use Rattle.grammar_model.specs.Grammar.{WrittenRule, Plain, Sequence}

-- how many groups the rule's statement has
abbrev pub groups_of : WrittenRule → ℕ
groups_of (Plain r) = r.groups
groups_of (Sequence r) = 1

abbrev pub is_sequence : WrittenRule → Bool
is_sequence (Plain r) = false
is_sequence (Sequence r) = true
