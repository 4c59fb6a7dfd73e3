-- The rules of the flat grammar are listed by their names, each once.
use Rattle.std.proofs.Common.{◌≡◌, ◌≢◌, ℕ, zero, suc, ◌<◌, Bool, true, false, not, cond, List, [], ◌∷◌, length, inl, inr, Option, Some, None, refl, sym, ap, ◌∙◌, subst, arith, lit<}
use Rattle.std.specs.Prelude.{◌&&◌, nat_lt, slice_index, IsFalse}
use Rattle.std.specs.List.{list_all}
use Rattle.std.proofs.lemmas.Bool.{ltb-true, and_from, and_parts}
use Rattle.std.proofs.lemmas.Option.{slice_get-get_or}
use Rattle.finite_sets.proofs.Members.{among_either, among_flat_map_from, Among, Once}
use Rattle.grammar_model.specs.Grammar.{PlainRule, SequenceRule, WrittenRule, Plain, Grammar, rule_at, slot_of, child_slot}
use Rattle.grammar_model.specs.Grammar
use Rattle.grammar_model.specs.Analysis.{IsLive}
use Rattle.grammar_model.specs.Simple.{is_terminal, numbers, fits}
use Rattle.grammar_model.proofs.Simple.{terminal_from, no_terminal_from, fits_from, among_numbers, among_numbers_from}
use Rattle.recognizer_model.specs.declared.flat.FlatSymbol.{FlatSymbol}
use Rattle.recognizer_model.specs.declared.flat.FlatSymbol.TheVariants.{Terminal, Slot, Sequence, Top}
use Rattle.recognizer_model.specs.declared.flat.FlatSource.{FlatSource}
use Rattle.recognizer_model.specs.declared.flat.FlatSource.TheVariants.{Written, Top as OfStart}
use Rattle.recognizer_model.specs.FlatForm.{IsUsedSlot, IsSymbolOf, Stands, AsTerminal, AsSlot, StandAll, NamedRule, IsRuleOf, OfPlain, OfList, OfTrailing, OfItem, OfItems, OfSeparated, OfTop}
use Rattle.flat_model.specs.Flatten
use Rattle.flat_model.specs.Flatten.{Decided}
use Rattle.flat_rules.proofs.Symbols.{symbol_in}

pub among_if : {X : Type 0} (b : Bool) (x : X) (xs : List X) → Among x (cond b xs []) → (b ≡ true) × Among x xs
among_if true x xs m = (refl, m)
among_if false x xs m = absurd m

pub if_among : {X : Type 0} (b : Bool) (x : X) (xs : List X) → b ≡ true → Among x xs → Among x (cond b xs [])
if_among true x xs e m = m
if_among false x xs e m = cc

pub once_if : {X : Type 0} (b : Bool) (xs : List X) → Once xs → Once (cond b xs [])
once_if true xs h = h
once_if false xs h = tt

-- ---- what is told of a rule

abbrev pub index_of : FlatSource → ℕ
index_of (Written i) = i
index_of (OfStart k) = k

all_among : {X : Type 0} (p : X → Bool) (x : X) (xs : List X) → list_all p xs ≡ true → Among x xs → p x ≡ true
all_among p x [] e m = absurd m
all_among p x (y ∷ ys) e (inl same) = ap p (sym same) ∙ (and_parts (p y) (list_all p ys) e).0
all_among p x (y ∷ ys) e (inr m) = all_among p x ys (and_parts (p y) (list_all p ys) e).1 m

among_all : {X : Type 0} (p : X → Bool) (xs : List X) → ((x : X) → Among x xs → p x ≡ true) → list_all p xs ≡ true
among_all p [] h = refl
among_all p (y ∷ ys) h = and_from (p y) (list_all p ys) (h y (inl refl)) (among_all p ys (λ x m. h x (inr m)))

module _ (w : Grammar) (d : Decided w) where
  abbrev symbol_for : Grammar.Slot → FlatSymbol
  symbol_for = Flatten.symbol_for w d

  stand_by : (b : Bool) (slot : Grammar.Slot) → is_terminal w slot.symbol ≡ b → Stands w slot (cond b (Terminal slot.symbol) (Slot slot.symbol slot.level))
  stand_by true slot e = AsTerminal (terminal_from w slot.symbol e)
  stand_by false slot e = AsSlot (no_terminal_from w slot.symbol e)

  pub stand : (slot : Grammar.Slot) → Stands w slot (symbol_for slot)
  stand slot = stand_by (is_terminal w slot.symbol) slot refl

  pub parts_stand : (rule : WrittenRule) (k n : ℕ) → StandAll w rule k (Flatten.parts_from w d rule k n)
  parts_stand rule k zero = tt
  parts_stand rule k (suc n) = (stand (child_slot rule k), parts_stand rule (suc k) n)

  pub parts_length : (rule : WrittenRule) (k n : ℕ) → length (Flatten.parts_from w d rule k n) ≡ n
  parts_length rule k zero = refl
  parts_length rule k (suc n) = ap suc (parts_length rule (suc k) n)

  -- ---- a plain rule

  abbrev pub plain_made : (s k i : ℕ) → PlainRule → NamedRule
  plain_made s k i r = record { left = Slot s k; right = Flatten.parts_from w d (Plain r) 0 (length r.rhs); source = Written i }

  some_parts : (ss : List FlatSymbol) → 0 < length ss → ss ≢ []
  some_parts [] lt e = omega arith
  some_parts (x ∷ xs) lt e = cc

  abbrev Told : (s k i : ℕ) → NamedRule → Type 0
  Told s k i n = IsRuleOf w n × (n.left ≡ Slot s k) × (n.source ≡ Written i)

  pub live_from : (rule : WrittenRule) → Flatten.is_live w d rule ≡ true → IsLive w rule
  live_from (Plain r) e = λ k lt.
      (d.productive_is (child_slot (Plain r) k)).0 (all_among (λ k. d.productive (child_slot (Plain r) k)) k (numbers (length r.rhs)) e (among_numbers (length r.rhs) k lt))
  live_from (Grammar.Sequence r) e = (d.productive_is (slot_of r.item)).0 e

  pub from_live : (rule : WrittenRule) → IsLive w rule → Flatten.is_live w d rule ≡ true
  from_live (Plain r) h =
      among_all (λ k. d.productive (child_slot (Plain r) k)) (numbers (length r.rhs)) (λ k m. (d.productive_is (child_slot (Plain r) k)).1 (h k (among_numbers_from (length r.rhs) k m)))
  from_live (Grammar.Sequence r) h = (d.productive_is (slot_of r.item)).1 h

  plain_in : (s k i : ℕ) (r : PlainRule) (n : NamedRule) → IsUsedSlot w (record { symbol = s; level = k }) → i < length w.rules → rule_at w i ≡ Plain r → Among n (Flatten.plain_rules w d s k i r) → Told s k i n
  plain_in s k i r n used lt is m =
      let (test, a) = among_if (fits (Plain r) (record { symbol = s; level = k }) && (Flatten.is_live w d (Plain r) && nat_lt 0 (length r.rhs))) n (plain_made s k i r ∷ []) m in
      let (f, rest) = and_parts (fits (Plain r) (record { symbol = s; level = k })) (Flatten.is_live w d (Plain r) && nat_lt 0 (length r.rhs)) test in
      let (live, some) = and_parts (Flatten.is_live w d (Plain r)) (nat_lt 0 (length r.rhs)) rest in
      let len = parts_length (Plain r) 0 (length r.rhs) in
      let more : 0 < length r.rhs = ltb-true 0 (length r.rhs) some in
      let p : IsRuleOf w (plain_made s k i r) = OfPlain i s k r (Flatten.parts_from w d (Plain r) 0 (length r.rhs)) lt is (some_parts _ (omega arith)) (live_from (Plain r) live)
      (fits_from (Plain r) (record { symbol = s; level = k }) f) used len (parts_stand (Plain r) 0 (length r.rhs)) in
      elim a [ inl e ↦ subst (Told s k i) e (p, refl, refl) | inr bad ↦ absurd bad ]

  -- ---- a sequence rule, as a slot's

  abbrev pub list_made : ℕ → SequenceRule → NamedRule
  list_made i r = record { left = Slot r.lhs 0; right = Sequence i ∷ []; source = Written i }

  abbrev pub trailing_made : ℕ → SequenceRule → ℕ → NamedRule
  trailing_made i r c = record { left = Slot r.lhs 0; right = Sequence i ∷ symbol_for (slot_of c) ∷ []; source = Written i }

  false_from : (b : Bool) → not b ≡ true → IsFalse b
  false_from true e = cc
  false_from false e = refl

  trailing_in : (i : ℕ) (r : SequenceRule) (separator : Option ℕ) (n : NamedRule) → IsSymbolOf w (Sequence i) → rule_at w i ≡ Grammar.Sequence r → r.separator ≡ separator →
      Among n (Flatten.trailing_rules w d i r separator) → Told r.lhs 0 i n
  trailing_in i r None n symbol is sep m = absurd m
  trailing_in i r (Some c) n symbol is sep m =
      let (test, a) = among_if (not r.proper && d.productive (slot_of c)) n (trailing_made i r c ∷ []) m in
      let (proper, prod) = and_parts (not r.proper) (d.productive (slot_of c)) test in
      let p : IsRuleOf w (trailing_made i r c) = OfTrailing i c r (symbol_for (slot_of c)) symbol is sep (false_from r.proper proper) ((d.productive_is (slot_of c)).0 prod) (stand (slot_of c)) in
      elim a [ inl e ↦ subst (Told r.lhs 0 i) e (p, refl, refl) | inr bad ↦ absurd bad ]

  list_in : (s k i : ℕ) (r : SequenceRule) (n : NamedRule) → IsUsedSlot w (record { symbol = s; level = k }) → i < length w.rules → rule_at w i ≡ Grammar.Sequence r → Among n (Flatten.list_rules w d s k i r) → Told s k i n
  list_in s k i r n used lt is m =
      let (test, a) = among_if (fits (Grammar.Sequence r) (record { symbol = s; level = k }) && Flatten.is_live w d (Grammar.Sequence r)) n (list_made i r ∷ Flatten.trailing_rules w d i r r.separator) m in
      let (f, live) = and_parts (fits (Grammar.Sequence r) (record { symbol = s; level = k })) (Flatten.is_live w d (Grammar.Sequence r)) test in
      let (left, low) = fits_from (Grammar.Sequence r) (record { symbol = s; level = k }) f in
      let zero_level : 0 ≡ k = omega arith in
      let used' : IsUsedSlot w (slot_of r.lhs) = subst (λ z. IsUsedSlot w (record { symbol = z; level = 0 })) (sym left) (subst (λ z. IsUsedSlot w (record { symbol = s; level = z })) (sym zero_level) used) in
      let symbol : IsSymbolOf w (Sequence i) = (r, lt, is, live_from (Grammar.Sequence r) live, used') in
      let told : Told r.lhs 0 i n = elim a [ inl e ↦ subst (Told r.lhs 0 i) e (OfList i r symbol is, refl, refl) | inr b ↦ trailing_in i r r.separator n symbol is refl b ] in
      (told.0, told.1 ∙ (λ z. Slot (left z) (zero_level z)), told.2)

  pub slot_rule_in : (s k i : ℕ) (rule : WrittenRule) (n : NamedRule) → IsUsedSlot w (record { symbol = s; level = k }) → i < length w.rules → rule_at w i ≡ rule → Among n (Flatten.slot_rules w d s k i rule) → Told s k i n
  slot_rule_in s k i (Plain r) n used lt is m = plain_in s k i r n used lt is m
  slot_rule_in s k i (Grammar.Sequence r) n used lt is m = list_in s k i r n used lt is m

  -- ---- a sequence rule, as a list's

  abbrev InList : ℕ → NamedRule → Type 0
  InList i n = IsRuleOf w n × (n.left ≡ Sequence i)

  abbrev pub item_made : ℕ → SequenceRule → NamedRule
  item_made i r = record { left = Sequence i; right = symbol_for (slot_of r.item) ∷ []; source = Written i }

  abbrev pub items_made : ℕ → SequenceRule → NamedRule
  items_made i r = record { left = Sequence i; right = Sequence i ∷ symbol_for (slot_of r.item) ∷ []; source = Written i }

  abbrev pub separated_made : ℕ → SequenceRule → ℕ → NamedRule
  separated_made i r c = record { left = Sequence i; right = Sequence i ∷ symbol_for (slot_of c) ∷ symbol_for (slot_of r.item) ∷ []; source = Written i }

  pub longer_in : (i : ℕ) (r : SequenceRule) (separator : Option ℕ) (n : NamedRule) → IsSymbolOf w (Sequence i) → rule_at w i ≡ Grammar.Sequence r → r.separator ≡ separator →
      Among n (Flatten.longer_rules w d i r separator) → InList i n × (1 < length n.right)
  longer_in i r None n symbol is sep (inl e) =
      subst (λ z. InList i z × (1 < length z.right)) e ((OfItems i r (symbol_for (slot_of r.item)) symbol is sep (stand (slot_of r.item)), refl), lit< tt)
  longer_in i r None n symbol is sep (inr bad) = absurd bad
  longer_in i r (Some c) n symbol is sep m =
      let (prod, a) = among_if (d.productive (slot_of c)) n (separated_made i r c ∷ []) m in
      let p : IsRuleOf w (separated_made i r c) = OfSeparated i c r (symbol_for (slot_of r.item)) (symbol_for (slot_of c)) symbol is sep ((d.productive_is (slot_of c)).0 prod) (stand (slot_of c)) (stand (slot_of r.item)) in
      elim a [ inl e ↦ subst (λ z. InList i z × (1 < length z.right)) e ((p, refl), lit< tt) | inr bad ↦ absurd bad ]

  item_in : (i : ℕ) (rule : WrittenRule) (n : NamedRule) → IsSymbolOf w (Sequence i) → rule_at w i ≡ rule → Among n (Flatten.item_rules w d i rule) → InList i n
  item_in i (Plain r) n symbol is m = absurd m
  item_in i (Grammar.Sequence r) n symbol is m =
      elim (among_either n (Flatten.longer_rules w d i r r.separator) (item_made i r ∷ []) m) [
        | inl a ↦ (longer_in i r r.separator n symbol is refl a).0
        | inr a ↦ elim a [ inl e ↦ subst (InList i) e (OfItem i r (symbol_for (slot_of r.item)) symbol is (stand (slot_of r.item)), refl) | inr bad ↦ absurd bad ]
      ]

  -- ---- the rules of a symbol

  pub rule_in : (x : FlatSymbol) (n : NamedRule) → IsSymbolOf w x → Among n (Flatten.rules_of w d x) → IsRuleOf w n × (n.left ≡ x)
  rule_in (Terminal t) n symbol m = absurd m
  rule_in (Slot s k) n (other, used) m =
      let (i, a, b) = among_flat_map_from (λ i. Flatten.slot_rules w d s k i (rule_at w i)) n (numbers (length w.rules)) m in
      let told = slot_rule_in s k i (rule_at w i) n used (among_numbers_from (length w.rules) i a) refl b in
      (told.0, told.1)
  rule_in (Sequence i) n symbol m = item_in i (rule_at w i) n symbol refl m
  rule_in (Top k) n lt (inl e) =
      let p : IsRuleOf w (record { left = Top k; right = symbol_for (slot_of (slice_index w.starts k)) ∷ []; source = OfStart k }) =
      OfTop k (slice_index w.starts k) (symbol_for (slot_of (slice_index w.starts k))) (slice_get-get_or w.starts k _ lt) (stand (slot_of (slice_index w.starts k))) in
      subst (λ (z : NamedRule). IsRuleOf w z × (z.left ≡ Top k)) e (p, refl)
  rule_in (Top k) n lt (inr bad) = absurd bad

  pub named_in : (n : NamedRule) → Among n (Flatten.named_rules w d) → IsRuleOf w n × Among n.left (Flatten.symbols w d)
  named_in n m =
      let (x, a, b) = among_flat_map_from (Flatten.rules_of w d) n (Flatten.symbols w d) m in
      let (rule, e) = rule_in x n (symbol_in w d x a) b in
      (rule, subst (λ z. Among z (Flatten.symbols w d)) (sym e) a)
