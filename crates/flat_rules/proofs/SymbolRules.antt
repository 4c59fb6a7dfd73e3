-- The rules of each symbol, by the numbers of their symbols.
use Rattle.std.proofs.Common.{◌≡◌, ℕ, ◌<◌, Bool, true, false, cond, List, [], ◌∷◌, ◌++◌, length, map, get_or, Option, Some, None, refl, sym, ap, ◌∙◌, subst, true≢false, arith}
use Rattle.std.specs.Prelude.{◌&&◌, ◌==◌, ◌↔◌, filter, nat_lt, nat_le, slice_index, slice_get, is_some}
use Rattle.std.specs.List.{flat_map}
use Rattle.std.proofs.lemmas.List.{map-append}
use Rattle.grammar_model.specs.Grammar.{SequenceRule, WrittenRule, Plain, Grammar, rule_at, slot_of, sequence_symbol}
use Rattle.grammar_model.specs.Grammar
use Rattle.grammar_model.specs.Simple.{is_terminal, numbers}
use Rattle.grammar_model.proofs.Simple.{terminal_from, no_terminal_from, among_numbers_from}
use Rattle.recognizer_model.specs.declared.flat.FlatSymbol.{FlatSymbol}
use Rattle.recognizer_model.specs.declared.flat.FlatSymbol.TheVariants.{Terminal, Slot, Sequence, Top}
use Rattle.flat_model.specs.Flatten
use Rattle.flat_model.specs.Flatten.{Decided}
use Rattle.grammar_core.specs.Rules.{is_sequence}
use Rattle.flat_rules.specs.Tables.{Numbering, number_in, numbered_in, place_of, rules_with, lists_to, rows_of, AreLefts, slots_of_terminals, slots_of_lefts}
use Rattle.flat_rules.specs.Added.{rule_by, part_in, items_by, top_by, from_rule, from_rules, separator_counts, counts_separator}
use Rattle.flat_rules.proofs.Deciding.{slots_known, map_flat, terminal_symbol, left_symbol}
use Rattle.flat_rules.proofs.Listing.{terminal_none, no_rules, same_test}
use Rattle.grammar_model.specs.Analysis.{IsNullable}
use Rattle.grammar_model.proofs.Total.{nullable_not_terminal}
use Rattle.flat_rules.proofs.SlotRules.{named_by, number_flat}
use Rattle.std.specs.declared.vec.Vec.{Vec}
use Rattle.std.specs.declared.alloc.Global.{Global}
use Rattle.finite_sets.proofs.Lists.{get_among, get_index}
use Rattle.finite_sets.proofs.Members.{among_filter_from, among_at, Among}
use Rattle.grammar_core.specs.Written.{IsWritten}
use Rattle.flat_rules.proofs.Rows.{row_is, rows_length}

flat_filter : {X : Type 0} (g : ℕ → List X) (p : ℕ → Bool) (xs : List ℕ) → ((k : ℕ) → p k ≡ false → g k ≡ []) → flat_map g (filter p xs) ≡ flat_map g xs
flat_filter g p [] h = refl
flat_filter g p (x ∷ xs) h = go (p x) refl (flat_filter g p xs h)
  where
    go : (b : Bool) → p x ≡ b → flat_map g (filter p xs) ≡ flat_map g xs → flat_map g (cond b (x ∷ filter p xs) (filter p xs)) ≡ g x ++ flat_map g xs
    go true e rest = ap (λ l. g x ++ l) rest
    go false e rest = rest ∙ ap (λ l. l ++ flat_map g xs) (sym (h x e))

module _ (w : Grammar) (d : Decided w) (t : Numbering) where
  -- a rule of another symbol gives none
  other_none : (s k i : ℕ) (rule : WrittenRule) → (Grammar.lhs_of rule == s) ≡ false → map (numbered_in t) (Flatten.slot_rules w d s k i rule) ≡ []
  other_none s k i (Plain r) e =
      ap (λ b. map (numbered_in t) (cond ((b && nat_le k r.level) && (Flatten.is_live w d (Plain r) && nat_lt 0 (length r.rhs))) (named_by (Slot s k) (Flatten.parts_from w d (Plain r) 0 (length r.rhs)) i ∷ []) [])) e
  other_none s k i (Grammar.Sequence r) e =
      ap (λ b. map (numbered_in t) (cond ((b && nat_le k 0) && Flatten.is_live w d (Grammar.Sequence r)) (named_by (Slot r.lhs 0) (Sequence i ∷ []) i ∷ Flatten.trailing_rules w d i r r.separator) [])) e

  -- the rules of a slot are those from the rules of its symbol
  pub row_rules : (slot : Grammar.Slot) → from_rules w d t slot (rules_with w slot.symbol) ≡ map (numbered_in t) (Flatten.rules_of w d (Flatten.symbol_for w d slot))
  row_rules slot = go (is_terminal w slot.symbol) refl
    where
      go : (b : Bool) → is_terminal w slot.symbol ≡ b → from_rules w d t slot (rules_with w slot.symbol) ≡ map (numbered_in t) (Flatten.rules_of w d (Flatten.symbol_for w d slot))
      go true e =
          ap (from_rules w d t slot) (terminal_none w slot.symbol (terminal_from w slot.symbol e))
          ∙ ap (λ x. map (numbered_in t) (Flatten.rules_of w d x)) (sym (terminal_symbol w d slot.symbol slot.level e))
      go false e =
          flat_filter (from_rule w d t slot) (λ i. Grammar.lhs_of (rule_at w i) == slot.symbol) (numbers (length w.rules)) (λ i no_left. other_none slot.symbol slot.level i (rule_at w i) no_left)
          ∙ sym (map_flat (numbered_in t) (λ i. Flatten.slot_rules w d slot.symbol slot.level i (rule_at w i)) (from_rule w d t slot) (numbers (length w.rules)) (λ i. refl))
          ∙ ap (λ x. map (numbered_in t) (Flatten.rules_of w d x)) (sym (left_symbol w d slot.symbol slot.level e))

  first_item : (item : ℕ) (separator : Option ℕ) → sequence_symbol item separator 0 ≡ item
  first_item item None = refl
  first_item item (Some c) = refl

  longer_is : (i : ℕ) (r : SequenceRule) (separator : Option ℕ) →
      cond (is_some separator)
      (cond (separator_counts d separator) (rule_by i (number_in t (Sequence i)) (number_in t (Sequence i) ∷ place_of t.slots (slot_of (sequence_symbol r.item separator 1)) ∷ place_of t.slots (slot_of (sequence_symbol r.item separator 0)) ∷ []) ∷ []) [])
      (rule_by i (number_in t (Sequence i)) (number_in t (Sequence i) ∷ place_of t.slots (slot_of (sequence_symbol r.item separator 0)) ∷ []) ∷ [])
      ≡ map (numbered_in t) (Flatten.longer_rules w d i r separator)
  longer_is i r None = ap (λ x. rule_by i (number_in t (Sequence i)) (number_in t (Sequence i) ∷ x ∷ []) ∷ []) (sym (number_flat w d t r.item))
  longer_is i r (Some c) = go (d.productive (slot_of c)) (sym (number_flat w d t c)) (sym (number_flat w d t r.item))
    where
      go : (b : Bool) → place_of t.slots (slot_of c) ≡ number_in t (Flatten.symbol_for w d (slot_of c)) → place_of t.slots (slot_of r.item) ≡ number_in t (Flatten.symbol_for w d (slot_of r.item)) →
          cond b (rule_by i (number_in t (Sequence i)) (number_in t (Sequence i) ∷ place_of t.slots (slot_of c) ∷ place_of t.slots (slot_of r.item) ∷ []) ∷ []) []
          ≡ map (numbered_in t) (cond b (named_by (Sequence i) (Sequence i ∷ Flatten.symbol_for w d (slot_of c) ∷ Flatten.symbol_for w d (slot_of r.item) ∷ []) i ∷ []) [])
      go true a b = λ z. rule_by i (number_in t (Sequence i)) (number_in t (Sequence i) ∷ a z ∷ b z ∷ []) ∷ []
      go false a b = refl

  item_is : (i : ℕ) (r : SequenceRule) → rule_by i (number_in t (Sequence i)) (part_in t (Grammar.Sequence r) 0 ∷ []) ≡ numbered_in t (named_by (Sequence i) (Flatten.symbol_for w d (slot_of r.item) ∷ []) i)
  item_is i r = ap (λ x. rule_by i (number_in t (Sequence i)) (x ∷ [])) (ap (λ s. place_of t.slots (slot_of s)) (first_item r.item r.separator) ∙ sym (number_flat w d t r.item))

  pub items_of : (i : ℕ) → is_sequence (rule_at w i) ≡ true → items_by t i (counts_separator d (rule_at w i)) (rule_at w i) ≡ map (numbered_in t) (Flatten.rules_of w d (Sequence i))
  items_of i more = go (rule_at w i) more
    where
      go : (rule : WrittenRule) → is_sequence rule ≡ true → items_by t i (counts_separator d rule) rule ≡ map (numbered_in t) (Flatten.item_rules w d i rule)
      go (Plain r) more = absurd (true≢false (sym more))
      go (Grammar.Sequence r) more =
          (λ z. longer_is i r r.separator z ++ item_is i r z ∷ [])
          ∙ sym (map-append (numbered_in t) (Flatten.longer_rules w d i r r.separator) (named_by (Sequence i) (Flatten.symbol_for w d (slot_of r.item) ∷ []) i ∷ []))

  pub top_of : (k : ℕ) → top_by t k (slice_index w.starts k) ∷ [] ≡ map (numbered_in t) (Flatten.rules_of w d (Top k))
  top_of k = ap (λ x. record { lhs = number_in t (Top k); rhs = x ∷ []; source = Rattle.recognizer_model.specs.declared.flat.FlatSource.TheVariants.Top k } ∷ []) (sym (number_flat w d t (slice_index w.starts k)))

-- a rule that makes a list is a sequence
makes_sequence : (w : Grammar) (d : Decided w) (rule : WrittenRule) → Flatten.makes_list w d rule ≡ true → is_sequence rule ≡ true
makes_sequence w d (Plain r) e = cc
makes_sequence w d (Grammar.Sequence r) e = refl

pub lists_known : (w : Grammar) (d : Decided w) (lists : List ℕ) (k : ℕ) → lists ≡ lists_to w d (length w.rules) → k < length lists → (get_or lists k 0 < length w.rules) × (is_sequence (rule_at w (get_or lists k 0)) ≡ true)
lists_known w d lists k e lt =
    let i = get_or lists k 0 in
    let m : Among i (lists_to w d (length w.rules)) = subst (Among i) e (among_at lists k 0 lt) in
    let (a, makes) = among_filter_from (λ i. Flatten.makes_list w d (rule_at w i)) i (numbers (length w.rules)) m in
    (among_numbers_from (length w.rules) i a, makes_sequence w d (rule_at w i) makes)

-- the row of a slot's symbol
pub row_of_slot : (w : Grammar) (d : Decided w) (slots : List Grammar.Slot) (x : ℕ) (slot : Grammar.Slot) (rows : List (Vec ℕ Global)) (row : Vec ℕ Global) → IsWritten w → slots ≡ slots_of_terminals w d ++ slots_of_lefts w d →
    slice_get slots x ≡ Some slot → AreLefts w (rows_of rows) → row ≡ get_or rows slot.symbol row → (slot.symbol < length rows) × (row.items ≡ rules_with w slot.symbol)
row_of_slot w d slots x slot rows row written are at lefts is =
    let known = slots_known w d written slot (subst (Among slot) are (get_among slots x slot at)) in
    let long = rows_length rows in
    let lt : slot.symbol < length rows = omega (arith, known, long, lefts.sized) in
    (lt, row_is rows slot.symbol row lt is ∙ lefts.each slot.symbol known)

-- ---- the symbol of a slot, and its mark

pub symbol_told : (w : Grammar) (d : Decided w) (slot : Grammar.Slot) (row : List ℕ) (r : FlatSymbol) → row ≡ rules_with w slot.symbol → (row ≡ [] → r ≡ Terminal slot.symbol) → ((row ≡ [] → ⊥) → r ≡ Slot slot.symbol slot.level) →
    r ≡ Flatten.symbol_for w d slot
symbol_told w d slot row r e terminal left = go (is_terminal w slot.symbol) refl
  where
    go : (b : Bool) → is_terminal w slot.symbol ≡ b → r ≡ Flatten.symbol_for w d slot
    go true t = terminal (e ∙ terminal_none w slot.symbol (terminal_from w slot.symbol t)) ∙ sym (terminal_symbol w d slot.symbol slot.level t)
    go false f = left (λ none. no_terminal_from w slot.symbol f (no_rules w slot.symbol (sym e ∙ none))) ∙ sym (left_symbol w d slot.symbol slot.level f)

pub mark_told : (w : Grammar) (d : Decided w) (slot : Grammar.Slot) (r : Bool) → (r ≡ true) ↔ IsNullable w slot → r ≡ Flatten.is_marked w d (Flatten.symbol_for w d slot)
mark_told w d slot r is = go (is_terminal w slot.symbol) refl
  where
    none : (r : Bool) → (r ≡ true → ⊥) → r ≡ false
    none true never = absurd (never refl)
    none false never = refl

    go : (b : Bool) → is_terminal w slot.symbol ≡ b → r ≡ Flatten.is_marked w d (Flatten.symbol_for w d slot)
    go true t = none r (λ e. nullable_not_terminal w slot (is.0 e) (terminal_from w slot.symbol t)) ∙ ap (Flatten.is_marked w d) (sym (terminal_symbol w d slot.symbol slot.level t))
    go false f = same_test r (d.nullable slot) (IsNullable w slot) is (d.nullable_is slot) ∙ ap (Flatten.is_marked w d) (sym (left_symbol w d slot.symbol slot.level f))

pub top_told : (w w' : Grammar) (d : Decided w) (k start : ℕ) (r : Bool) → w' ≡ w → slice_get w'.starts k ≡ Some start → (r ≡ true) ↔ IsNullable w (slot_of start) → r ≡ Flatten.is_marked w d (Top k)
top_told w w' d k start r e at is =
    let here : slice_index w.starts k ≡ start = (get_index w.starts k _ start (ap (λ (g : Grammar). slice_get g.starts k) (sym e) ∙ at)).1 in
    same_test r (d.nullable (slot_of start)) (IsNullable w (slot_of start)) is (d.nullable_is (slot_of start)) ∙ ap (λ s. d.nullable (slot_of s)) (sym here)
