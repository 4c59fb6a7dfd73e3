-- Numbers for slots: those of one symbol stand together, by level, and the numbers of the symbols stand in order.
use Rattle.std.specs.Prelude.{◌≡◌, ℕ, suc, ◌+◌, ◌<◌, ◌≤◌, Bool, false, if◌then◌else◌, List, [], ◌∷◌, length, map, slice_index, slice_index_or, Contains, ◌⊎◌, option_to_list}
use Rattle.std.specs.List.{range_with_len}
use Rattle.grammar_model.specs.Grammar.{WrittenRule, Plain, Sequence, Grammar, Slot, rule_at, lhs_of, level_of, child_slot}
use Rattle.grammar_core.specs.Rules.{groups_of}
use Rattle.horn_clauses.specs.Least.{Clause}

abbrev pub number : List ℕ → Slot → ℕ
number bases slot = slice_index bases slot.symbol + slot.level

abbrev pub end_of : List ℕ → ℕ → ℕ
end_of bases symbol = slice_index bases (suc symbol)

-- room for each level of each symbol's rules, and for level 0 in any case
pub record IsNumbering (g : Grammar) (bases : List ℕ) : Type 0 where
  pub sized : length bases ≡ suc (length g.names)
  pub begin : slice_index bases 0 ≡ 0
  pub rising : (s : ℕ) → s < length g.names → slice_index bases s < end_of bases s
  pub rooms : (i : ℕ) → i < length g.rules → slice_index bases (lhs_of (rule_at g i)) + groups_of (rule_at g i) ≤ end_of bases (lhs_of (rule_at g i))

-- the slot has a number
abbrev pub IsNumbered : Grammar → List ℕ → Slot → Type 0
IsNumbered g bases slot = (slot.symbol < length g.names) × (number bases slot < end_of bases slot.symbol)

-- how many child slots of a rule count: none of a star, and of another sequence the separator only where asked
abbrev pub body_count : Bool → WrittenRule → ℕ
body_count separators (Plain r) = length r.rhs
body_count separators (Sequence r) = if r.plus then (if separators then suc (length (option_to_list r.separator)) else 1) else 0

-- how many a live rule needs to be productive
abbrev pub needed_of : WrittenRule → ℕ
needed_of (Plain r) = length r.rhs
needed_of (Sequence r) = 1

abbrev pub rule_clause : Bool → List ℕ → WrittenRule → Clause
rule_clause separators bases rule = record {
  head = slice_index bases (lhs_of rule) + level_of rule;
  body = map (λ k. number bases (child_slot rule k)) (range_with_len 0 (body_count separators rule));
}

-- a slot can do what the next tighter one of its symbol can
abbrev pub chain_clause : ℕ → Clause
chain_clause x = record { head = x; body = suc x ∷ [] }

abbrev pub fact_clause : ℕ → Clause
fact_clause x = record { head = x; body = [] }

-- clauses were added that take each number before the end to the one before it
pub record HasChain (old new : List Clause) (from to : ℕ) : Type 0 where
  pub keeps : (c : Clause) → Contains old c → Contains new c
  pub only : (c : Clause) → Contains new c → Contains old c ⊎ ((x : ℕ) × (from ≤ x) × (suc x < to) × (c ≡ chain_clause x))
  pub has : (x : ℕ) → from ≤ x → suc x < to → Contains new (chain_clause x)

-- clauses were added of each number from one to another
pub record HasFacts (old new : List Clause) (from to : ℕ) : Type 0 where
  pub keeps : (c : Clause) → Contains old c → Contains new c
  pub only : (c : Clause) → Contains new c → Contains old c ⊎ ((x : ℕ) × (from ≤ x) × (x < to) × (c ≡ fact_clause x))
  pub has : (x : ℕ) → from ≤ x → x < to → Contains new (fact_clause x)

-- clauses were added of the levels of the first so many symbols
pub record HasLevels (bases : List ℕ) (count : ℕ) (old new : List Clause) : Type 0 where
  pub keeps : (c : Clause) → Contains old c → Contains new c
  pub only : (c : Clause) → Contains new c → Contains old c ⊎ ((s : ℕ) × (x : ℕ) × (s < count) × (slice_index bases s ≤ x) × (suc x < end_of bases s) × (c ≡ chain_clause x))
  pub has : (s x : ℕ) → s < count → slice_index bases s ≤ x → suc x < end_of bases s → Contains new (chain_clause x)

-- clauses were added of those of the first so many symbols that are no left side
pub record HasTerminals (bases : List ℕ) (lefts : List Bool) (count : ℕ) (old new : List Clause) : Type 0 where
  pub keeps : (c : Clause) → Contains old c → Contains new c
  pub only : (c : Clause) → Contains new c → Contains old c ⊎ ((s : ℕ) × (x : ℕ) × (s < count) × (slice_index bases s ≤ x) × (x < end_of bases s) × (slice_index_or lefts s false ≡ false) × (c ≡ fact_clause x))
  pub has : (s x : ℕ) → s < count → slice_index bases s ≤ x → x < end_of bases s → slice_index_or lefts s false ≡ false → Contains new (fact_clause x)
