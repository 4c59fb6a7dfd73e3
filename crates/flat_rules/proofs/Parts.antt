-- What stands on the right side of a flat rule is a symbol of the flat grammar: the children of live rules of slots that count do count.
use Rattle.std.proofs.Common.{◌≡◌, ℕ, suc, ◌<◌, ◌≤◌, ◌+◌, Bool, true, false, cond, List, [], ◌∷◌, length, inl, inr, Option, Some, None, refl, sym, ap, ◌∙◌, subst, arith, lit<, lit≤}
use Rattle.std.specs.Prelude.{◌&&◌, ◌==◌, nat_lt, Contains, slice_get, slice_index}
use Rattle.std.proofs.lemmas.Bool.{ne_eqb}
use Rattle.std.proofs.lemmas.List.{get_or_default}
use Rattle.finite_sets.proofs.Members.{Among}
use Rattle.finite_sets.proofs.Lists.{get_index}
use Rattle.grammar_model.specs.Grammar.{PlainRule, SequenceRule, WrittenRule, Plain, Grammar, rule_at, slot_of, child_slot, Fits, own_level, sequence_symbol, IsChildSlot}
use Rattle.grammar_model.specs.Grammar
use Rattle.grammar_model.specs.Analysis.{IsProductive, IsLive}
use Rattle.grammar_model.specs.Checked.{IsChecked}
use Rattle.recognizer_model.specs.declared.flat.FlatSymbol.{FlatSymbol}
use Rattle.recognizer_model.specs.FlatForm.{IsUsedSlot, IsSymbolOf, Stands, AsTerminal, AsSlot, StandAll, NamedRule, IsRuleOf, OfPlain, OfList, OfTrailing, OfItem, OfItems, OfSeparated, OfTop}

module _ (w : Grammar) where
  -- a child slot of a live rule of a slot that counts
  pub child_used : (i : ℕ) (rule : WrittenRule) (above slot : Grammar.Slot) → i < length w.rules → rule_at w i ≡ rule → Fits rule above → IsLive w rule → IsUsedSlot w above → IsProductive w slot → IsChildSlot rule slot → IsUsedSlot w slot
  child_used i rule above slot lt is fits live used prod child =
      ((suc used.0.0, (above, used.0.1, prod, (i, lt, subst (λ z. Fits z above) (sym is) fits, (subst (IsLive w) (sym is) live, subst (λ z. IsChildSlot z slot) (sym is) child)))), prod)

  -- a terminal counts with level 0 alone
  stands_used : (slot : Grammar.Slot) (s : FlatSymbol) → Stands w slot s → IsUsedSlot w slot → (Grammar.IsTerminal w slot.symbol → slot ≡ slot_of slot.symbol) → IsSymbolOf w s
  stands_used slot s (AsTerminal t) used flat = (t, subst (IsUsedSlot w) (flat t) used)
  stands_used slot s (AsSlot n) used flat = (n, used)

  no_level : (b : Bool) (n : ℕ) → cond (b && false) n 0 ≡ 0
  no_level true n = refl
  no_level false n = refl

  pub level_zero : (i : ℕ) (r : PlainRule) → i < length w.rules → rule_at w i ≡ Plain r → (k : ℕ) → Grammar.IsTerminal w (slice_index r.rhs k) → child_slot (Plain r) k ≡ slot_of (slice_index r.rhs k)
  level_zero i r lt is k t =
      let other : (slice_index r.rhs k == r.lhs) ≡ false = ne_eqb _ _ (λ e. t i lt (ap Grammar.lhs_of is ∙ sym e)) in
      λ z. record { symbol = slice_index r.rhs k; level = (ap (λ b. cond (nat_lt 1 r.groups && b) (own_level r.assoc r k) 0) other ∙ no_level (nat_lt 1 r.groups) (own_level r.assoc r k)) z }

  plain_parts : (i : ℕ) (r : PlainRule) (above : Grammar.Slot) (k : ℕ) (ss : List FlatSymbol) (s : FlatSymbol) → i < length w.rules → rule_at w i ≡ Plain r → Fits (Plain r) above → IsLive w (Plain r) → IsUsedSlot w above →
      StandAll w (Plain r) k ss → k + length ss ≤ length r.rhs → Among s ss → IsSymbolOf w s
  plain_parts i r above k [] s lt is fits live used all le m = absurd m
  plain_parts i r above k (x ∷ xs) s lt is fits live used all le (inl e) =
      let child : IsUsedSlot w (child_slot (Plain r) k) = child_used i (Plain r) above (child_slot (Plain r) k) lt is fits live used (live k (omega arith)) (k, omega arith, refl) in
      subst (IsSymbolOf w) e (stands_used (child_slot (Plain r) k) x all.0 child (level_zero i r lt is k))
  plain_parts i r above k (x ∷ xs) s lt is fits live used all le (inr m) = plain_parts i r above (suc k) xs s lt is fits live used all.1 (omega arith) m

  -- the item of a list that counts, and its separator
  pub item_used : (i : ℕ) (r q : SequenceRule) → rule_at w i ≡ Grammar.Sequence r → rule_at w i ≡ Grammar.Sequence q → i < length w.rules → IsLive w (Grammar.Sequence q) → IsUsedSlot w (slot_of q.lhs) → IsUsedSlot w (slot_of r.item)
  item_used i r q is is' lt live used =
      let both : Grammar.Sequence q ≡ Grammar.Sequence r = sym is' ∙ is in
      let same : q ≡ r = cc in
      subst (λ (z : SequenceRule). IsUsedSlot w (slot_of z.item)) same
      (child_used i (Grammar.Sequence q) (slot_of q.lhs) (slot_of q.item) lt is' (refl, lit≤ tt) live used live (0, some q.separator, ap slot_of (first q.separator)))
    where
      some : (separator : Option ℕ) → 0 < suc (length (Rattle.std.specs.Prelude.option_to_list separator))
      some separator = omega arith

      first : (separator : Option ℕ) → sequence_symbol q.item separator 0 ≡ q.item
      first None = refl
      first (Some c) = refl

  pub separator_used : (i c : ℕ) (r q : SequenceRule) → rule_at w i ≡ Grammar.Sequence r → rule_at w i ≡ Grammar.Sequence q → i < length w.rules → IsLive w (Grammar.Sequence q) → IsUsedSlot w (slot_of q.lhs) → r.separator ≡ Some c → IsProductive w (slot_of c) → IsUsedSlot w (slot_of c)
  separator_used i c r q is is' lt live used sep prod =
      let both : Grammar.Sequence q ≡ Grammar.Sequence r = sym is' ∙ is in
      let same : q ≡ r = cc in
      let here : q.separator ≡ Some c = ap (λ (z : SequenceRule). z.separator) same ∙ sep in
      child_used i (Grammar.Sequence q) (slot_of q.lhs) (slot_of c) lt is' (refl, lit≤ tt) live used prod
      (1, subst (λ z. 1 < suc (length (Rattle.std.specs.Prelude.option_to_list z))) (sym here) (lit< tt), ap (λ z. slot_of (sequence_symbol q.item z 1)) here)

  alone : (slot : ℕ) (s x : FlatSymbol) → Stands w (slot_of slot) s → IsUsedSlot w (slot_of slot) → Among x (s ∷ []) → IsSymbolOf w x
  alone slot s x st used (inl e) = subst (IsSymbolOf w) e (stands_used (slot_of slot) s st used (λ t. refl))
  alone slot s x st used (inr bad) = absurd bad

  pub start_used : IsChecked w → (k start : ℕ) → slice_get w.starts k ≡ Some start → IsUsedSlot w (slot_of start)
  start_used c k start e =
      let (lt, is) = get_index w.starts k 0 start e in
      let among : Contains w.starts start = (k, lt, get_or_default w.starts k _ 0 lt ∙ is) in
      ((0, (start, among, refl)), c.starts_productive start among)

  -- each part of a flat rule is a symbol
  pub parts_are : IsChecked w → (n : NamedRule) → IsRuleOf w n → (x : FlatSymbol) → Among x n.right → IsSymbolOf w x
  parts_are c n (OfPlain i s k r right lt is some live fits used len all) x m =
      plain_parts i r (record { symbol = s; level = k }) 0 right x lt is fits live used all (omega arith) m
  parts_are c n (OfList i r symbol is) x (inl e) = subst (IsSymbolOf w) e symbol
  parts_are c n (OfList i r symbol is) x (inr bad) = absurd bad
  parts_are c n (OfTrailing i b r s symbol is sep proper prod st) x (inl e) = subst (IsSymbolOf w) e symbol
  parts_are c n (OfTrailing i b r s (q, lt, is', live, used) is sep proper prod st) x (inr m) = alone b s x st (separator_used i b r q is is' lt live used sep prod) m
  parts_are c n (OfItem i r b (q, lt, is', live, used) is st) x m = alone r.item b x st (item_used i r q is is' lt live used) m
  parts_are c n (OfItems i r b symbol is sep st) x (inl e) = subst (IsSymbolOf w) e symbol
  parts_are c n (OfItems i r b (q, lt, is', live, used) is sep st) x (inr m) = alone r.item b x st (item_used i r q is is' lt live used) m
  parts_are c n (OfSeparated i b r s t symbol is sep prod st st') x (inl e) = subst (IsSymbolOf w) e symbol
  parts_are c n (OfSeparated i b r s t (q, lt, is', live, used) is sep prod st st') x (inr (inl e)) =
      subst (IsSymbolOf w) e (stands_used (slot_of b) t st (separator_used i b r q is is' lt live used sep prod) (λ h. refl))
  parts_are c n (OfSeparated i b r s t (q, lt, is', live, used) is sep prod st st') x (inr (inr m)) = alone r.item s x st' (item_used i r q is is' lt live used) m
  parts_are c n (OfTop k start s e st) x m = alone start s x st (start_used c k start e) m
