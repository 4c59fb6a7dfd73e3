-- Tables of a grammar: the rules of each left side, those that can stand in a tree, and the numbers of flat symbols.
use Rattle.std.specs.Prelude.{◌≡◌, ◌≢◌, ℕ, ◌+◌, ◌<◌, ◌≤◌, ◌^◌, ◌↔◌, Bool, true, false, ◌==◌, ◌&&◌, List, [], ◌∷◌, ◌++◌, length, map, filter, flat_map, slice_index, slice_index_or, unwrap_or}
use Rattle.std.specs.List.{position}
use Rattle.std.specs.declared.vec.Vec.{Vec}
use Rattle.std.specs.declared.alloc.Global.{Global}
use Rattle.grammar_model.specs.Grammar.{WrittenRule, Plain, Grammar, rule_at, slot_of}
use Rattle.grammar_model.specs.Grammar
use Rattle.grammar_model.specs.Analysis.{IsLive}
use Rattle.grammar_model.specs.Simple.{is_terminal, numbers}
use Rattle.recognizer_model.specs.Flat.{FlatRule}
use Rattle.recognizer_model.specs.declared.flat.FlatSymbol.{FlatSymbol}
use Rattle.recognizer_model.specs.declared.flat.FlatSymbol.TheVariants.{Terminal, Slot, Sequence, Top}
use Rattle.recognizer_model.specs.FlatForm.{NamedRule}
use Rattle.flat_rules.specs.declared.numbering.SlotKey.{SlotKey}
use Rattle.flat_model.specs.Flatten.{Decided, levels_of, makes_list}

-- RULES

abbrev pub rows_of : List (Vec ℕ Global) → List (List ℕ)
rows_of rows = map (λ row. row.items) rows

abbrev pub row_at : List (List ℕ) → ℕ → List ℕ
row_at rows s = slice_index_or rows s []

-- a number was added at the end of a row
pub record HasAdded (old new : List (List ℕ)) (s i : ℕ) : Type 0 where
  pub same_length : length new ≡ length old
  pub here : row_at new s ≡ row_at old s ++ i ∷ []
  pub others : (t : ℕ) → t ≢ s → row_at new t ≡ row_at old t

-- the rules of a left side
abbrev pub rules_with : Grammar → ℕ → List ℕ
rules_with w s = filter (λ i. Grammar.lhs_of (rule_at w i) == s) (numbers (length w.rules))

pub record AreLefts (w : Grammar) (rows : List (List ℕ)) : Type 0 where
  pub sized : length rows ≡ length w.names
  pub each : (s : ℕ) → s < length w.names → row_at rows s ≡ rules_with w s

-- whether each rule is live
pub record AreLive (w : Grammar) (live : List Bool) : Type 0 where
  pub sized : length live ≡ length w.rules
  pub each : (i : ℕ) → i < length w.rules → (slice_index_or live i false ≡ true) ↔ IsLive w (rule_at w i)

-- NUMBERS OF SYMBOLS

abbrev pub slot_at : ℕ → ℕ → Grammar.Slot
slot_at s k = record { symbol = s; level = k }

abbrev pub told_slot : SlotKey → Grammar.Slot
told_slot key = slot_at key.symbol key.level

abbrev pub same_slot : Grammar.Slot → Grammar.Slot → Bool
same_slot s t = (s.symbol == t.symbol) && (s.level == t.level)

-- the slots before the lists, those of terminals first; the rules that make lists, and how many of them are before each rule
pub record Numbering : Type 0 where
  pub slots : List Grammar.Slot
  pub lists : List ℕ
  pub before : List ℕ

abbrev pub place_of : List Grammar.Slot → Grammar.Slot → ℕ
place_of slots s = unwrap_or (position (same_slot s) slots) 0

abbrev pub number_in : Numbering → FlatSymbol → ℕ
number_in t (Terminal s) = place_of t.slots (slot_of s)
number_in t (Slot s k) = place_of t.slots (slot_at s k)
number_in t (Sequence i) = length t.slots + slice_index t.before i
number_in t (Top k) = length t.slots + (length t.lists + k)

abbrev pub numbered_in : Numbering → NamedRule → FlatRule
numbered_in t n = record { lhs = number_in t n.left; rhs = map (number_in t) n.right; source = n.source }

module _ (w : Grammar) (d : Decided w) where
  abbrev pub slots_of_terminals : List Grammar.Slot
  slots_of_terminals = map slot_of (filter (λ s. is_terminal w s && d.used (slot_of s)) (numbers d.symbols))

  abbrev pub slots_of_lefts : List Grammar.Slot
  slots_of_lefts = flat_map (λ s. map (slot_at s) (levels_of w d s)) (numbers d.symbols)

  abbrev pub lists_to : ℕ → List ℕ
  lists_to n = filter (λ i. makes_list w d (rule_at w i)) (numbers n)

-- the symbols of the flat grammar, numbered
pub record AreNumbers (w : Grammar) (t : Numbering) : Type 0 where
  pub slots : (d : Decided w) → t.slots ≡ slots_of_terminals w d ++ slots_of_lefts w d
  pub lists : (d : Decided w) → t.lists ≡ lists_to w d (length w.rules)
  pub before : (d : Decided w) (i : ℕ) → i < length w.rules → slice_index t.before i ≡ length (lists_to w d i)
  pub few : (i : ℕ) → i < length w.rules → slice_index t.before i ≤ length t.lists
  pub sized : length t.before ≡ length w.rules
  pub small : length t.slots + (length t.lists + length w.starts) < 2 ^ 32
