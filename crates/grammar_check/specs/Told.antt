-- Slots as pairs of a symbol and a level.
use Rattle.std.specs.Prelude.{◌≡◌, ℕ, ◌<◌, ◌≤◌, List, length, map, slice_index, slice_index_or}
use Rattle.grammar_model.specs.Grammar.{Grammar, Slot}
use Rattle.jagged.specs.Rows.{row_at}
use Rattle.slot_analysis.specs.Slots.{number, end_of, IsNumbered}

abbrev pub slot_with : ℕ × ℕ → Slot
slot_with p = record { symbol = p.0; level = p.1 }

abbrev pub slots_with : List (ℕ × ℕ) → List Slot
slots_with ps = map slot_with ps

-- the place is one of the symbol's levels
abbrev pub IsPlaced : List (List ℕ) → ℕ × ℕ → Type 0
IsPlaced rows p = p.1 < length (row_at rows p.0)

-- the slot whose level has this place
abbrev pub unpacked_pair : List (List ℕ) → ℕ × ℕ → ℕ × ℕ
unpacked_pair rows p = (p.0, slice_index (row_at rows p.0) p.1)

-- the symbol of each number
pub record IsHomed (g : Grammar) (bases homes : List ℕ) : Type 0 where
  pub sized : length homes ≡ slice_index bases (length g.names)
  pub home : (s x : ℕ) → s < length g.names → slice_index bases s ≤ x → x < end_of bases s → slice_index homes x ≡ s

-- the slots have these numbers
pub record AreSlotsAt (g : Grammar) (bases numbers : List ℕ) (slots : List (ℕ × ℕ)) : Type 0 where
  pub sized : length slots ≡ length numbers
  pub numbered : (i : ℕ) → i < length numbers → IsNumbered g bases (slot_with (slice_index_or slots i (0, 0)))
  pub same : (i : ℕ) → i < length numbers → number bases (slot_with (slice_index_or slots i (0, 0))) ≡ slice_index numbers i
