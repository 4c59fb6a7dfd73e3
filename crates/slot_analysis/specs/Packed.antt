-- Levels without gaps. Only the order of levels counts, so a level is replaced by how many of the levels that occur
-- at its symbol are below it: a few numbers are enough for all slots, however large the levels are.
use Rattle.std.specs.Prelude.{ℕ, suc, ◌<◌, nat_lt, if◌then◌else◌, List, [], ◌∷◌, length, map, slice_index, Contains, ◌≡◌}
use Rattle.std.specs.List.Sorted.{IsStrictlyIncreasing}
use Rattle.jagged.specs.Rows.{row_at}
use Rattle.grammar_model.specs.Grammar.{WrittenRule, Plain, Sequence, Grammar, Slot, rule_at, lhs_of, level_of}

-- how many of the levels are below this one
abbrev pub count_below : List ℕ → ℕ → ℕ
count_below [] level = 0
count_below (l ∷ ls) level = if nat_lt l level then suc (count_below ls level) else count_below ls level

abbrev pub place : List (List ℕ) → (symbol level : ℕ) → ℕ
place rows symbol level = count_below (row_at rows symbol) level

abbrev pub packed_rule : List (List ℕ) → WrittenRule → WrittenRule
packed_rule rows (Plain r) =
    Plain (record { lhs = r.lhs; rhs = r.rhs; level = place rows r.lhs r.level; groups = place rows r.lhs r.groups; assoc = r.assoc; rank = r.rank; null_high = r.null_high })
packed_rule rows (Sequence r) = Sequence r

abbrev pub packed : List (List ℕ) → Grammar → Grammar
packed rows g = record { names = g.names; rules = map (packed_rule rows) g.rules; starts = g.starts }

abbrev pub packed_slot : List (List ℕ) → Slot → Slot
packed_slot rows slot = record { symbol = slot.symbol; level = place rows slot.symbol slot.level }

-- the slot whose level has this place
abbrev pub unpacked_slot : List (List ℕ) → Slot → Slot
unpacked_slot rows slot = record { symbol = slot.symbol; level = slice_index (row_at rows slot.symbol) slot.level }

-- the level is one of those that occur at the symbol
abbrev pub Occurs : List (List ℕ) → Slot → Type 0
Occurs rows slot = Contains (row_at rows slot.symbol) slot.level

-- level 0 is in each of the first n rows
pub record HasFirsts (n : ℕ) (rows : List (List ℕ)) : Type 0 where
  pub sized : length rows ≡ n
  pub first : (s : ℕ) → s < n → Contains (row_at rows s) 0

-- a level and the next one were added to a row
pub record HasBoth (old new : List (List ℕ)) (x level : ℕ) : Type 0 where
  pub same_length : length new ≡ length old
  pub keeps : (y l : ℕ) → Contains (row_at old y) l → Contains (row_at new y) l
  pub level_in : Contains (row_at new x) level
  pub next_in : Contains (row_at new x) (suc level)

-- the levels 0, of the first n rules, and next to those
pub record HoldsLevels (g : Grammar) (n : ℕ) (rows : List (List ℕ)) : Type 0 where
  pub sized : length rows ≡ length g.names
  pub first : (s : ℕ) → s < length g.names → Contains (row_at rows s) 0
  pub levels : (i : ℕ) → i < n → Contains (row_at rows (lhs_of (rule_at g i))) (level_of (rule_at g i))
  pub nexts : (i : ℕ) → i < n → Contains (row_at rows (lhs_of (rule_at g i))) (suc (level_of (rule_at g i)))

-- for each symbol the levels that can occur at it, in order
pub record IsLevelTable (g : Grammar) (rows : List (List ℕ)) : Type 0 where
  pub has : HoldsLevels g (length g.rules) rows
  pub rising : (s : ℕ) → IsStrictlyIncreasing (row_at rows s)
