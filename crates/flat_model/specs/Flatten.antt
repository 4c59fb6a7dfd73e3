-- The flat grammar that is made of a checked grammar: its symbols and its rules, listed. Symbols stand in this order: terminals,
-- slots, lists, tops. The rules of a symbol stand together, in the order of the symbols.
use Rattle.std.specs.Prelude.{◌≡◌, ℕ, zero, suc, ◌+◌, ◌<◌, ◌^◌, ◌↔◌, Bool, true, false, not, ◌&&◌, nat_lt, nat_eq, if◌then◌else◌, List, [], ◌∷◌, ◌++◌, length, map, filter, flat_map, Option, Some, None, slice_index}
use Rattle.std.specs.List.{list_all}
use Rattle.grammar_model.specs.Grammar.{PlainRule, SequenceRule, WrittenRule, Plain, Grammar, rule_at, slot_of, child_slot}
use Rattle.grammar_model.specs.Grammar
use Rattle.grammar_model.specs.Analysis.{IsProductive, IsNullable}
use Rattle.grammar_model.specs.Simple.{is_terminal, fits, numbers}
use Rattle.recognizer_model.specs.Flat.{FlatGrammar, FlatRule}
use Rattle.recognizer_model.specs.declared.flat.FlatSymbol.{FlatSymbol}
use Rattle.recognizer_model.specs.declared.flat.FlatSymbol.TheVariants.{Terminal, Slot, Sequence, Top}
use Rattle.recognizer_model.specs.declared.flat.FlatSource.TheVariants.{Written, Top as OfStart}
use Rattle.grammar_model.specs.Checked.{IsChecked}
use Rattle.recognizer_model.specs.FlatForm.{NamedRule, IsUsedSlot, IsFlatOf}
use Rattle.recognizer_model.specs.Invariant.{IsFlat, IsArranged}

-- what a check has decided of a grammar's slots, and bounds of those that count
pub record Decided (w : Grammar) : Type 0 where
  pub used : Grammar.Slot → Bool
  pub used_is : (s : Grammar.Slot) → (used s ≡ true) ↔ IsUsedSlot w s
  pub productive : Grammar.Slot → Bool
  pub productive_is : (s : Grammar.Slot) → (productive s ≡ true) ↔ IsProductive w s
  pub nullable : Grammar.Slot → Bool
  pub nullable_is : (s : Grammar.Slot) → (nullable s ≡ true) ↔ IsNullable w s
  pub symbols : ℕ
  pub below_symbols : (s : Grammar.Slot) → IsUsedSlot w s → s.symbol < symbols
  pub levels : ℕ
  pub below_levels : (s : Grammar.Slot) → IsUsedSlot w s → (Grammar.IsTerminal w s.symbol → ⊥) → s.level < levels

-- PLACES

abbrev pub same_symbol : FlatSymbol → FlatSymbol → Bool
same_symbol (Terminal s) (Terminal t) = nat_eq s t
same_symbol (Slot s k) (Slot t l) = nat_eq s t && nat_eq k l
same_symbol (Sequence i) (Sequence j) = nat_eq i j
same_symbol (Top k) (Top l) = nat_eq k l
same_symbol _ _ = false

-- where the symbol stands in a list that has it
abbrev pub place_in : List FlatSymbol → FlatSymbol → ℕ
place_in [] s = 0
place_in (x ∷ xs) s = if same_symbol x s then 0 else suc (place_in xs s)

module _ (w : Grammar) (d : Decided w) where
  abbrev pub is_live : WrittenRule → Bool
  is_live (Plain r) = list_all (λ k. d.productive (child_slot (Plain r) k)) (numbers (length r.rhs))
  is_live (Grammar.Sequence r) = d.productive (slot_of r.item)

  -- the flat symbol of a slot
  abbrev pub symbol_for : Grammar.Slot → FlatSymbol
  symbol_for slot = if is_terminal w slot.symbol then Terminal slot.symbol else Slot slot.symbol slot.level

  -- the flat symbols of so many parts of a rule, from the place k on
  abbrev pub parts_from : WrittenRule → (k n : ℕ) → List FlatSymbol
  parts_from rule k zero = []
  parts_from rule k (suc n) = symbol_for (child_slot rule k) ∷ parts_from rule (suc k) n

  -- SYMBOLS

  abbrev pub terminals : List FlatSymbol
  terminals = map Terminal (filter (λ s. is_terminal w s && d.used (slot_of s)) (numbers d.symbols))

  abbrev pub levels_of : ℕ → List ℕ
  levels_of s = filter (λ k. not (is_terminal w s) && d.used (record { symbol = s; level = k })) (numbers d.levels)

  abbrev pub slots : List FlatSymbol
  slots = flat_map (λ s. map (Slot s) (levels_of s)) (numbers d.symbols)

  abbrev pub makes_list : WrittenRule → Bool
  makes_list (Plain r) = false
  makes_list (Grammar.Sequence r) = is_live (Grammar.Sequence r) && d.used (slot_of r.lhs)

  abbrev pub lists : List FlatSymbol
  lists = map Sequence (filter (λ i. makes_list (rule_at w i)) (numbers (length w.rules)))

  abbrev pub tops : List FlatSymbol
  tops = map Top (numbers (length w.starts))

  abbrev pub symbols : List FlatSymbol
  symbols = terminals ++ (slots ++ (lists ++ tops))

  -- RULES

  abbrev pub plain_rules : (s k i : ℕ) → PlainRule → List NamedRule
  plain_rules s k i r =
      if fits (Plain r) (record { symbol = s; level = k }) && (is_live (Plain r) && nat_lt 0 (length r.rhs))
      then record { left = Slot s k; right = parts_from (Plain r) 0 (length r.rhs); source = Written i } ∷ []
      else []

  abbrev pub trailing_rules : (i : ℕ) → SequenceRule → Option ℕ → List NamedRule
  trailing_rules i r None = []
  trailing_rules i r (Some c) =
      if not r.proper && d.productive (slot_of c)
      then record { left = Slot r.lhs 0; right = Sequence i ∷ symbol_for (slot_of c) ∷ []; source = Written i } ∷ []
      else []

  abbrev pub list_rules : (s k i : ℕ) → SequenceRule → List NamedRule
  list_rules s k i r =
      if fits (Grammar.Sequence r) (record { symbol = s; level = k }) && is_live (Grammar.Sequence r)
      then record { left = Slot r.lhs 0; right = Sequence i ∷ []; source = Written i } ∷ trailing_rules i r r.separator
      else []

  abbrev pub slot_rules : (s k i : ℕ) → WrittenRule → List NamedRule
  slot_rules s k i (Plain r) = plain_rules s k i r
  slot_rules s k i (Grammar.Sequence r) = list_rules s k i r

  abbrev pub longer_rules : (i : ℕ) → SequenceRule → Option ℕ → List NamedRule
  longer_rules i r None = record { left = Sequence i; right = Sequence i ∷ symbol_for (slot_of r.item) ∷ []; source = Written i } ∷ []
  longer_rules i r (Some c) =
      if d.productive (slot_of c)
      then record { left = Sequence i; right = Sequence i ∷ symbol_for (slot_of c) ∷ symbol_for (slot_of r.item) ∷ []; source = Written i } ∷ []
      else []

  abbrev pub item_rules : (i : ℕ) → WrittenRule → List NamedRule
  item_rules i (Plain r) = []
  item_rules i (Grammar.Sequence r) = longer_rules i r r.separator ++ record { left = Sequence i; right = symbol_for (slot_of r.item) ∷ []; source = Written i } ∷ []

  -- the rules of a symbol
  abbrev pub rules_of : FlatSymbol → List NamedRule
  rules_of (Terminal t) = []
  rules_of (Slot s k) = flat_map (λ i. slot_rules s k i (rule_at w i)) (numbers (length w.rules))
  rules_of (Sequence i) = item_rules i (rule_at w i)
  rules_of (Top k) = record { left = Top k; right = symbol_for (slot_of (slice_index w.starts k)) ∷ []; source = OfStart k } ∷ []

  abbrev pub named_rules : List NamedRule
  named_rules = flat_map rules_of symbols

  -- NUMBERS

  abbrev pub number_of : FlatSymbol → ℕ
  number_of s = place_in symbols s

  abbrev pub numbered : NamedRule → FlatRule
  numbered n = record { lhs = number_of n.left; rhs = map number_of n.right; source = n.source }

  -- MARKS

  abbrev pub is_marked : FlatSymbol → Bool
  is_marked (Terminal t) = false
  is_marked (Slot s k) = d.nullable (record { symbol = s; level = k })
  is_marked (Sequence i) = false
  is_marked (Top k) = d.nullable (slot_of (slice_index w.starts k))

  -- how many rules stand before those of the tops
  abbrev pub before_tops : ℕ
  before_tops = length (flat_map rules_of (terminals ++ (slots ++ lists)))

  abbrev pub flat_of : FlatGrammar
  flat_of = record {
    symbols = symbols;
    nullable = map is_marked symbols;
    rules = map numbered named_rules;
    tops = map (λ k. before_tops + k) (numbers (length w.starts));
  }

-- THE LAW

-- what is numbered by 32 bits
pub record AreFew (w : Grammar) (f : FlatGrammar) : Type 0 where
  pub symbols : length f.symbols < 2 ^ 32
  pub rules : length f.rules < 2 ^ 32
  pub starts : length w.starts < 2 ^ 32
  pub short : (i : ℕ) (r : PlainRule) → i < length w.rules → rule_at w i ≡ Plain r → length r.rhs < 2 ^ 32

-- each checked grammar has its flat grammar
abbrev pub FlatGrammarsExist : Type 0
FlatGrammarsExist = (w : Grammar) (d : Decided w) → IsChecked w → AreFew w (flat_of w d) → IsFlatOf (flat_of w d) w × IsFlat (flat_of w d) × IsArranged (flat_of w d)
