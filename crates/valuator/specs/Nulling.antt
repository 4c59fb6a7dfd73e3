-- Of each symbol, the first of its rules that is empty or a star.
use Rattle.std.specs.Prelude.{◌≡◌, ℕ, ◌<◌, ◌==◌, ◌&&◌, Bool, true, false, Option, Some, None, List, length, slice_index_or}
use Rattle.grammar_model.specs.Grammar.{Grammar, WrittenRule, lhs_of, rule_at}
use Rattle.grammar_model.specs.Values.{is_nulling}

abbrev pub nulls_symbol : ℕ → WrittenRule → Bool
nulls_symbol symbol rule = (lhs_of rule == symbol) && is_nulling rule

-- it is the first that nulls the symbol among the first n rules, or there is none
abbrev pub IsFirst : Grammar → (symbol n : ℕ) → Option ℕ → Type 0
IsFirst g symbol n None = (j : ℕ) → j < n → nulls_symbol symbol (rule_at g j) ≡ false
IsFirst g symbol n (Some i) = (i < n) × ((j : ℕ) → j < i → nulls_symbol symbol (rule_at g j) ≡ false) × (nulls_symbol symbol (rule_at g i) ≡ true)

-- those of all symbols
abbrev pub AreFirst : Grammar → (n : ℕ) → List (Option ℕ) → Type 0
AreFirst g n rules = (length rules ≡ length g.names) × ((symbol : ℕ) → symbol < length g.names → IsFirst g symbol n (slice_index_or rules symbol None))

-- what is known of a symbol after one more of its rules
abbrev pub first_with : Option ℕ → Bool → ℕ → Option ℕ
first_with (Some i) nulls next = Some i
first_with None true next = Some next
first_with None false next = None
