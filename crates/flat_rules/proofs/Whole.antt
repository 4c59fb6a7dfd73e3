-- Each rule that the flat grammar has to have is among its rules, which are listed each once.
use Rattle.std.proofs.Common.{◌≡◌, ◌≢◌, ℕ, ◌<◌, Bool, true, false, not, List, [], ◌∷◌, length, inl, inr, Option, Some, None, refl, sym, ap, ◌∙◌, subst, arith, lit≤}
use Rattle.std.specs.Prelude.{◌&&◌, nat_lt, slice_get, slice_index, IsFalse}
use Rattle.std.proofs.lemmas.Bool.{lt-ltb, and_from}
use Rattle.finite_sets.proofs.Lists.{get_index}
use Rattle.finite_sets.proofs.Members.{among_left, among_right, among_flat_map, once_append, once_flat_map, Among, Once}
use Rattle.grammar_model.specs.Grammar.{PlainRule, SequenceRule, WrittenRule, Plain, Grammar, rule_at, slot_of, Fits}
use Rattle.grammar_model.specs.Grammar
use Rattle.grammar_model.specs.Analysis.{IsProductive, IsLive}
use Rattle.grammar_model.specs.Simple.{numbers, fits}
use Rattle.grammar_model.proofs.Simple.{from_fits, among_numbers, among_numbers_from}
use Rattle.recognizer_model.specs.declared.flat.FlatSymbol.{FlatSymbol}
use Rattle.recognizer_model.specs.declared.flat.FlatSymbol.TheVariants.{Terminal, Slot, Sequence, Top}
use Rattle.recognizer_model.specs.declared.flat.FlatSource.TheVariants.{Written, Top as OfStart}
use Rattle.recognizer_model.specs.FlatForm.{IsUsedSlot, IsSymbolOf, Stands, StandAll, NamedRule, IsRuleOf, OfPlain, OfList, OfTrailing, OfItem, OfItems, OfSeparated, OfTop}
use Rattle.recognizer_model.proofs.FlatNamed.{stand_one, all_one}
use Rattle.flat_model.specs.Flatten
use Rattle.flat_model.specs.Flatten.{Decided}
use Rattle.flat_rules.proofs.Once.{once_numbers}
use Rattle.flat_rules.proofs.Symbols.{symbol_in, in_symbols, once_symbols, sequence_of}
use Rattle.flat_rules.proofs.Rules.{if_among, once_if, index_of, stand, parts_stand, parts_length, from_live, plain_made, list_made, trailing_made, item_made, items_made, separated_made, slot_rule_in, longer_in, rule_in}

module _ (w : Grammar) (d : Decided w) where
  abbrev symbol_for : Grammar.Slot → FlatSymbol
  symbol_for = Flatten.symbol_for w d

  -- ---- each rule is there

  is_made : (s k i : ℕ) (r : PlainRule) (right : List FlatSymbol) → length right ≡ length r.rhs → StandAll w (Plain r) 0 right →
      plain_made w d s k i r ≡ record { left = Slot s k; right = right; source = Written i }
  is_made s k i r right len all =
      ap (λ ss. record { left = Slot s k; right = ss; source = Written i })
      (all_one w (Plain r) 0 (Flatten.parts_from w d (Plain r) 0 (length r.rhs)) right (parts_length w d (Plain r) 0 (length r.rhs) ∙ sym len) (parts_stand w d (Plain r) 0 (length r.rhs)) all)

  length_some : (ss : List FlatSymbol) → ss ≢ [] → 0 < length ss
  length_some [] h = absurd (h refl)
  length_some (x ∷ xs) h = omega arith

  plain_there : (s k i : ℕ) (r : PlainRule) (right : List FlatSymbol) → right ≢ [] → IsLive w (Plain r) → Fits (Plain r) (record { symbol = s; level = k }) →
      length right ≡ length r.rhs → StandAll w (Plain r) 0 right → Among (record { left = Slot s k; right = right; source = Written i }) (Flatten.plain_rules w d s k i r)
  plain_there s k i r right some live f len all =
      let more = length_some right some in
      if_among (fits (Plain r) (record { symbol = s; level = k }) && (Flatten.is_live w d (Plain r) && nat_lt 0 (length r.rhs))) _ (plain_made w d s k i r ∷ [])
      (and_from _ _ (from_fits (Plain r) (record { symbol = s; level = k }) f) (and_from _ _ (from_live w d (Plain r) live) (lt-ltb 0 (length r.rhs) (omega arith))))
      (inl (is_made s k i r right len all))

  list_test : (i : ℕ) (r : SequenceRule) → IsLive w (Grammar.Sequence r) → (fits (Grammar.Sequence r) (record { symbol = r.lhs; level = 0 }) && Flatten.is_live w d (Grammar.Sequence r)) ≡ true
  list_test i r live = and_from _ _ (from_fits (Grammar.Sequence r) (record { symbol = r.lhs; level = 0 }) (refl, lit≤ tt)) (from_live w d (Grammar.Sequence r) live)

  list_there : (i : ℕ) (r : SequenceRule) → IsLive w (Grammar.Sequence r) → Among (list_made w d i r) (Flatten.list_rules w d r.lhs 0 i r)
  list_there i r live =
      if_among (fits (Grammar.Sequence r) (record { symbol = r.lhs; level = 0 }) && Flatten.is_live w d (Grammar.Sequence r)) _ (list_made w d i r ∷ Flatten.trailing_rules w d i r r.separator) (list_test i r live) (inl refl)

  not_from : (b : Bool) → IsFalse b → not b ≡ true
  not_from true e = cc
  not_from false e = refl

  trailing_among : (i c : ℕ) (r : SequenceRule) (separator : Option ℕ) → separator ≡ Some c → IsFalse r.proper → IsProductive w (slot_of c) → Among (trailing_made w d i r c) (Flatten.trailing_rules w d i r separator)
  trailing_among i c r None e proper prod = cc
  trailing_among i c r (Some b) e proper prod =
      let same : b ≡ c = cc in
      if_among (not r.proper && d.productive (slot_of b)) _ (trailing_made w d i r b ∷ [])
      (and_from _ _ (not_from r.proper proper) ((d.productive_is (slot_of b)).1 (subst (λ z. IsProductive w (slot_of z)) (sym same) prod)))
      (inl (ap (trailing_made w d i r) same))

  trailing_there : (i c : ℕ) (r : SequenceRule) → IsLive w (Grammar.Sequence r) → r.separator ≡ Some c → IsFalse r.proper → IsProductive w (slot_of c) → Among (trailing_made w d i r c) (Flatten.list_rules w d r.lhs 0 i r)
  trailing_there i c r live sep proper prod =
      if_among (fits (Grammar.Sequence r) (record { symbol = r.lhs; level = 0 }) && Flatten.is_live w d (Grammar.Sequence r)) _ (list_made w d i r ∷ Flatten.trailing_rules w d i r r.separator) (list_test i r live)
      (inr (trailing_among i c r r.separator sep proper prod))

  items_among : (i : ℕ) (r : SequenceRule) (separator : Option ℕ) → separator ≡ None → Among (items_made w d i r) (Flatten.longer_rules w d i r separator)
  items_among i r None e = inl refl
  items_among i r (Some c) e = cc

  separated_among : (i c : ℕ) (r : SequenceRule) (separator : Option ℕ) → separator ≡ Some c → IsProductive w (slot_of c) → Among (separated_made w d i r c) (Flatten.longer_rules w d i r separator)
  separated_among i c r None e prod = cc
  separated_among i c r (Some b) e prod =
      let same : b ≡ c = cc in
      if_among (d.productive (slot_of b)) _ (separated_made w d i r b ∷ []) ((d.productive_is (slot_of b)).1 (subst (λ z. IsProductive w (slot_of z)) (sym same) prod)) (inl (ap (separated_made w d i r) same))

  -- ---- by their symbols

  in_slot : (s k i : ℕ) (rule : WrittenRule) (n : NamedRule) → i < length w.rules → rule_at w i ≡ rule → Among n (Flatten.slot_rules w d s k i rule) → Among n (Flatten.rules_of w d (Slot s k))
  in_slot s k i rule n lt is m =
      among_flat_map (λ i. Flatten.slot_rules w d s k i (rule_at w i)) i n (numbers (length w.rules)) (among_numbers (length w.rules) i lt)
      (subst (λ z. Among n (Flatten.slot_rules w d s k i z)) (sym is) m)

  in_list : (i : ℕ) (rule : WrittenRule) (n : NamedRule) → rule_at w i ≡ rule → Among n (Flatten.item_rules w d i rule) → Among n (Flatten.rules_of w d (Sequence i))
  in_list i rule n is m = subst (λ z. Among n (Flatten.item_rules w d i z)) (sym is) m

  same_sequence : (i : ℕ) (r q : SequenceRule) → rule_at w i ≡ Grammar.Sequence r → rule_at w i ≡ Grammar.Sequence q → q ≡ r
  same_sequence i r q a b = ap sequence_of (sym b ∙ a)

  live_list : (i : ℕ) (r : SequenceRule) → IsSymbolOf w (Sequence i) → rule_at w i ≡ Grammar.Sequence r → (i < length w.rules) × IsLive w (Grammar.Sequence r) × IsUsedSlot w (slot_of r.lhs)
  live_list i r (q, lt, is', live, used) is =
      let same : q ≡ r = same_sequence i r q is is' in
      (lt, subst (λ z. IsLive w (Grammar.Sequence z)) same live, subst (λ (z : SequenceRule). IsUsedSlot w (slot_of z.lhs)) same used)

  left_not : (i : ℕ) (rule : WrittenRule) (s : ℕ) → i < length w.rules → rule_at w i ≡ rule → Grammar.lhs_of rule ≡ s → Grammar.IsTerminal w s → ⊥
  left_not i rule s lt is left t = t i lt (ap Grammar.lhs_of is ∙ left)

  top_stand : (k start : ℕ) (s : FlatSymbol) → slice_get w.starts k ≡ Some start → Stands w (slot_of start) s → (k < length w.starts) × (symbol_for (slot_of (slice_index w.starts k)) ≡ s)
  top_stand k start s e st =
      let (lt, is) = get_index w.starts k _ start e in
      (lt, stand_one w (stand w d (slot_of (slice_index w.starts k))) (subst (λ z. Stands w (slot_of z) s) (sym is) st))

  -- the rule is one of its left side, which is a symbol
  pub in_rules : (n : NamedRule) → IsRuleOf w n → IsSymbolOf w n.left × Among n (Flatten.rules_of w d n.left)
  in_rules n (OfPlain i s k r right lt is some live f used len all) =
      ((left_not i (Plain r) s lt is f.0, used), in_slot s k i (Plain r) _ lt is (plain_there s k i r right some live f len all))
  in_rules n (OfList i r symbol is) =
      let (lt, live, used) = live_list i r symbol is in
      ((left_not i (Grammar.Sequence r) r.lhs lt is refl, used), in_slot r.lhs 0 i (Grammar.Sequence r) _ lt is (list_there i r live))
  in_rules n (OfTrailing i c r x symbol is sep proper prod st) =
      let (lt, live, used) = live_list i r symbol is in (
        (left_not i (Grammar.Sequence r) r.lhs lt is refl, used),
        subst (λ z. Among (record { left = Slot r.lhs 0; right = Sequence i ∷ z ∷ []; source = Written i }) (Flatten.rules_of w d (Slot r.lhs 0))) (stand_one w (stand w d (slot_of c)) st)
            (in_slot r.lhs 0 i (Grammar.Sequence r) _ lt is (trailing_there i c r live sep proper prod)),
      )
  in_rules n (OfItem i r b symbol is st) = (
    symbol,
    subst (λ z. Among (record { left = Sequence i; right = z ∷ []; source = Written i }) (Flatten.rules_of w d (Sequence i))) (stand_one w (stand w d (slot_of r.item)) st)
        (in_list i (Grammar.Sequence r) _ is (among_right (item_made w d i r) (Flatten.longer_rules w d i r r.separator) (item_made w d i r ∷ []) (inl refl))),
  )
  in_rules n (OfItems i r b symbol is sep st) = (
    symbol,
    subst (λ z. Among (record { left = Sequence i; right = Sequence i ∷ z ∷ []; source = Written i }) (Flatten.rules_of w d (Sequence i))) (stand_one w (stand w d (slot_of r.item)) st)
        (in_list i (Grammar.Sequence r) _ is (among_left (items_made w d i r) (Flatten.longer_rules w d i r r.separator) (item_made w d i r ∷ []) (items_among i r r.separator sep))),
  )
  in_rules n (OfSeparated i c r b x symbol is sep prod st st') =
      let one = stand_one w (stand w d (slot_of c)) st in
      let two = stand_one w (stand w d (slot_of r.item)) st' in (
        symbol,
        subst (λ z. Among z (Flatten.rules_of w d (Sequence i))) (λ v. record { left = Sequence i; right = Sequence i ∷ one v ∷ two v ∷ []; source = Written i })
            (in_list i (Grammar.Sequence r) _ is (among_left (separated_made w d i r c) (Flatten.longer_rules w d i r r.separator) (item_made w d i r ∷ []) (separated_among i c r r.separator sep prod))),
      )
  in_rules n (OfTop k start s e st) =
      let (lt, same) = top_stand k start s e st in
      (lt, inl (ap (λ z. record { left = Top k; right = z ∷ []; source = OfStart k }) same))

  pub in_named : (n : NamedRule) → IsRuleOf w n → Among n (Flatten.named_rules w d)
  in_named n rule =
      let (symbol, m) = in_rules n rule in
      among_flat_map (Flatten.rules_of w d) n.left n (Flatten.symbols w d) (in_symbols w d n.left symbol) m

  -- ---- each once

  once_trailing : (i : ℕ) (r : SequenceRule) (separator : Option ℕ) → Once (Flatten.trailing_rules w d i r separator)
  once_trailing i r None = tt
  once_trailing i r (Some c) = once_if (not r.proper && d.productive (slot_of c)) (trailing_made w d i r c ∷ []) ((λ m. m), tt)

  trailing_two : (i : ℕ) (r : SequenceRule) (separator : Option ℕ) (n : NamedRule) → Among n (Flatten.trailing_rules w d i r separator) → length n.right ≡ 2
  trailing_two i r None n m = absurd m
  trailing_two i r (Some c) n m =
      elim (Rattle.flat_rules.proofs.Rules.among_if (not r.proper && d.productive (slot_of c)) n (trailing_made w d i r c ∷ []) m).1 [ inl e ↦ sym (ap (λ (z : NamedRule). length z.right) e) | inr bad ↦ absurd bad ]

  once_slot_rules : (s k i : ℕ) (rule : WrittenRule) → Once (Flatten.slot_rules w d s k i rule)
  once_slot_rules s k i (Plain r) =
      once_if (fits (Plain r) (record { symbol = s; level = k }) && (Flatten.is_live w d (Plain r) && nat_lt 0 (length r.rhs))) (plain_made w d s k i r ∷ []) ((λ m. m), tt)
  once_slot_rules s k i (Grammar.Sequence r) =
      once_if (fits (Grammar.Sequence r) (record { symbol = s; level = k }) && Flatten.is_live w d (Grammar.Sequence r)) (list_made w d i r ∷ Flatten.trailing_rules w d i r r.separator)
      ((λ m. (let e = trailing_two i r r.separator (list_made w d i r) m in omega arith)), once_trailing i r r.separator)

  once_longer : (i : ℕ) (r : SequenceRule) (separator : Option ℕ) → Once (Flatten.longer_rules w d i r separator)
  once_longer i r None = ((λ m. m), tt)
  once_longer i r (Some c) = once_if (d.productive (slot_of c)) (separated_made w d i r c ∷ []) ((λ m. m), tt)

  once_item_rules : (i : ℕ) (rule : WrittenRule) → IsSymbolOf w (Sequence i) → rule_at w i ≡ rule → Once (Flatten.item_rules w d i rule)
  once_item_rules i (Plain r) symbol is = tt
  once_item_rules i (Grammar.Sequence r) symbol is =
      once_append (Flatten.longer_rules w d i r r.separator) (item_made w d i r ∷ []) (once_longer i r r.separator) ((λ m. m), tt)
      (λ n a b. (let more = (longer_in w d i r r.separator n symbol is refl a).1 in elim b [ inl e ↦ (let l = ap (λ (z : NamedRule). length z.right) e in omega arith) | inr bad ↦ absurd bad ]))

  once_of : (x : FlatSymbol) → IsSymbolOf w x → Once (Flatten.rules_of w d x)
  once_of (Terminal t) symbol = tt
  once_of (Slot s k) (other, used) =
      once_flat_map (λ i. Flatten.slot_rules w d s k i (rule_at w i)) (numbers (length w.rules)) (once_numbers (length w.rules)) (λ i m. once_slot_rules s k i (rule_at w i))
      (λ i j n p q a b. ap index_of (sym (slot_rule_in w d s k i (rule_at w i) n used (among_numbers_from (length w.rules) i p) refl a).2
      ∙ (slot_rule_in w d s k j (rule_at w j) n used (among_numbers_from (length w.rules) j q) refl b).2))
  once_of (Sequence i) symbol = once_item_rules i (rule_at w i) symbol refl
  once_of (Top k) symbol = ((λ m. m), tt)

  pub once_named : Once (Flatten.named_rules w d)
  once_named =
      once_flat_map (Flatten.rules_of w d) (Flatten.symbols w d) (once_symbols w d) (λ x m. once_of x (symbol_in w d x m))
      (λ x z n p q a b. sym (rule_in w d x n (symbol_in w d x p) a).1 ∙ (rule_in w d z n (symbol_in w d z q) b).1)
