-- The order of flat rules is that of what they come from.
use Rattle.std.proofs.Common.{◌≡◌, ℕ, suc, ◌<◌, ◌≤◌, Bool, true, false, cond, length, ◌⊎◌, inl, inr, Some, None, refl, sym, ap, ◌∙◌, subst, arith}
use Rattle.std.specs.Prelude.{slice_index, slice_index_or}
use Rattle.std.specs.declared.cmp.Ordering.{Ordering}
use Rattle.std.specs.declared.cmp.Ordering.TheVariants.{Less, Equal, Greater}
use Rattle.std.specs.Ordering.{ordering_then, ordering_reverse, nat_cmp, bool_cmp}
use Rattle.std.specs.Cmp.{nat_cmp_total, then_total, on_total, back_total, tied_itself}
use Rattle.finite_sets.proofs.Clauses.{nat_cmp-Equal, then_equal, nat_cmp-less}
use Rattle.grammar_model.specs.Grammar.{SequenceRule, Grammar, rule_at, slot_of, child_slot, has_trailing}
use Rattle.grammar_model.specs.Grammar
use Rattle.grammar_model.specs.Analysis
use Rattle.grammar_model.specs.Derives.{Edges}
use Rattle.grammar_model.specs.declared.Ranking.{Ranking}
use Rattle.grammar_model.specs.Order.{IsRuleOrder, rule_cmp, rank_order}
use Rattle.grammar_model.specs.Checked.{IsChecked}
use Rattle.grammar_model.proofs.Sorting.{rules_total, Made}
use Rattle.grammar_model.proofs.Productive.{item_first}
use Rattle.recognizer_model.specs.Flat.{FlatGrammar, IsRule, lhs_of, rhs_of, source_of}
use Rattle.recognizer_model.specs.declared.flat.FlatSymbol.{FlatSymbol}
use Rattle.recognizer_model.specs.declared.flat.FlatSymbol.TheVariants.{Slot, Sequence, Top}
use Rattle.recognizer_model.specs.declared.flat.FlatSource.TheVariants.{Written}
use Rattle.recognizer_model.specs.Invariant.{IsFlat}
use Rattle.recognizer_model.specs.FlatForm.{Stands, AsTerminal, AsSlot, NamedRule, IsFlatOf, symbol_at, named, source_number, list_length, is_list, flat_order}
use Rattle.recognizer_model.proofs.Forms.{FlatTerminal, FlatSlot, FlatList, IsInner, IsLong, StandsFor, KeepsOrder}
use Rattle.recognizer_model.proofs.FlatNamed.{form, SlotRight, slot_right, one_right, ListRight, ByItem, ByItems, BySeparated, list_right, one_list, stands_for}
use Rattle.recognizer_model.proofs.FlatJoin.{view, names, form_slot, form_list, flat_at, is_rule, same_place, left_is, source_is, length_is, part_is, real, lhs_is, rhs_is, view_nulled, sequence_in_range}

then_tie : (a b : Ordering) → (a ≡ Equal → b ≡ Equal) → ordering_then a b ≡ a
then_tie Less b h = refl
then_tie Equal b h = h refl
then_tie Greater b h = refl

bool_cmp-Equal : (a b : Bool) → bool_cmp a b ≡ Equal → a ≡ b
bool_cmp-Equal true true e = refl
bool_cmp-Equal false false e = refl
bool_cmp-Equal true false e = cc
bool_cmp-Equal false true e = cc

nat_cmp-greater : (a b : ℕ) → b < a → nat_cmp a b ≡ Greater
nat_cmp-greater a b h = nat_cmp_total.antisymm a b ∙ ap ordering_reverse (nat_cmp-less b a h)

nat_cmp-same : (a b : ℕ) → a ≡ b → nat_cmp a b ≡ Equal
nat_cmp-same a b e = ap (λ z. nat_cmp z b) e ∙ tied_itself nat_cmp_total b

pub flat_order_laws : (w : Grammar) (ranking : Ranking) (f : FlatGrammar) → IsRuleOrder (flat_order w ranking f)
flat_order_laws w ranking f = record {
  total = then_total (on_total (λ (x : Made). lhs_of f x.0) nat_cmp_total) (then_total (on_total (λ (x : Made). list_length f x.0) (back_total nat_cmp_total))
      (then_total (on_total (λ (x : Made). (source_number w (source_of f x.0), x.1)) (rules_total w ranking)) (on_total (λ (x : Made). x.0) nat_cmp_total)));
  same_rule = λ i m j n e. nat_cmp-Equal i j (then_equal (rule_cmp w ranking (source_number w (source_of f i)) m (source_number w (source_of f j)) n) (nat_cmp i j)
      (then_equal (nat_cmp (list_length f j) (list_length f i)) (ordering_then (rule_cmp w ranking (source_number w (source_of f i)) m (source_number w (source_of f j)) n) (nat_cmp i j))
      (then_equal (nat_cmp (lhs_of f i) (lhs_of f j)) (ordering_then (nat_cmp (list_length f j) (list_length f i)) (ordering_then (rule_cmp w ranking (source_number w (source_of f i)) m (source_number w (source_of f j)) n) (nat_cmp i j))) e).1).1).1;
}

module _ (f : FlatGrammar) (w : Grammar) (flat : IsFlat f) (made : IsFlatOf f w) (checked : IsChecked w) (edge : Edges) (ranking : Ranking) where
  abbrev F : Grammar
  F = view f w flat made checked

  abbrev n : Rattle.recognizer_model.proofs.Forms.FlatNames
  n = names f w flat made checked

  is_real : (r : ℕ) → r < length F.rules → 0 < length (n.rhs r) → IsRule f r
  is_real = real f w flat made checked

  abbrev name_at : ℕ → NamedRule
  name_at r = named f (flat_at f w flat made checked r)

  -- two rules of one symbol, from one written rule, that have the same right side, are one
  one_rule : (r r' : ℕ) → IsRule f r → IsRule f r' → lhs_of f r ≡ lhs_of f r' → source_of f r ≡ source_of f r' → (name_at r).right ≡ (name_at r').right → r ≡ r'
  one_rule r r' rule rule' l s e =
      same_place f w flat made checked r r' rule rule' (λ z. record {
        left = (left_is f w flat made checked r ∙ ap (symbol_at f) l ∙ sym (left_is f w flat made checked r')) z;
        right = e z;
        source = (source_is f w flat made checked r ∙ s ∙ sym (source_is f w flat made checked r')) z;
      })

  lefts : (r r' : ℕ) → IsRule f r → IsRule f r' → n.lhs r ≡ n.lhs r' → lhs_of f r ≡ lhs_of f r'
  lefts r r' rule rule' e = sym (lhs_is f w flat made checked r rule) ∙ e ∙ lhs_is f w flat made checked r' rule'

  symbol_is : (r : ℕ) (s : Rattle.recognizer_model.proofs.Forms.FlatSymbol) → IsRule f r → n.symbol (n.lhs r) ≡ s → form (symbol_at f (lhs_of f r)) ≡ s
  symbol_is r s rule e = ap (λ z. form (symbol_at f z)) (sym (lhs_is f w flat made checked r rule)) ∙ e

  count_is : (r : ℕ) → IsRule f r → length (name_at r).right ≡ length (n.rhs r)
  count_is r rule = length_is f w flat made checked r ∙ sym (ap length (rhs_is f w flat made checked r rule))

  -- ---- the rules of a slot

  slot_same : (r r' : ℕ) → IsRule f r → IsRule f r' → (s k : ℕ) → symbol_at f (lhs_of f r) ≡ Slot s k → lhs_of f r ≡ lhs_of f r' →
      rule_cmp w ranking (source_number w (source_of f r)) (length (n.rhs r)) (source_number w (source_of f r')) (length (n.rhs r')) ≡ Equal → r ≡ r'
  slot_same r r' rule rule' s k is l e =
      let (i, lt, src, right) = slot_right w (name_at r) (is_rule f w flat made checked r rule) s k (left_is f w flat made checked r ∙ is) in
      let (j, lt', src', right') = slot_right w (name_at r') (is_rule f w flat made checked r' rule') s k (left_is f w flat made checked r' ∙ ap (symbol_at f) (sym l) ∙ is) in
      let si = sym (source_is f w flat made checked r) ∙ src in
      let sj = sym (source_is f w flat made checked r') ∙ src' in
      let parts = then_equal _ _ (then_equal _ _ e).1 in
      let ij : i ≡ j = sym (ap (source_number w) si) ∙ nat_cmp-Equal _ _ parts.0 ∙ ap (source_number w) sj in
      let trailing = bool_cmp-Equal _ _ parts.1 in
      let trailing' : has_trailing (rule_at w i) (length (name_at r).right) ≡ has_trailing (rule_at w i) (length (name_at r').right) =
      (λ z. has_trailing (rule_at w (sym (ap (source_number w) si) z)) (count_is r rule z)) ∙ trailing
      ∙ (λ z. has_trailing (rule_at w ((ap (source_number w) sj ∙ sym ij) z)) (sym (count_is r' rule') z)) in
      one_rule r r' rule rule' l (si ∙ ap Written ij ∙ sym sj)
      (one_right w i (name_at r).right (name_at r').right right (subst (λ z. SlotRight w z (name_at r').right) (sym ij) right') trailing')

  slot_rules : (slot : Grammar.Slot) (r r' : ℕ) → r < length F.rules → r' < length F.rules → 0 < length (n.rhs r) → 0 < length (n.rhs r') → n.symbol (n.lhs r) ≡ FlatSlot slot → n.lhs r ≡ n.lhs r' →
      (flat_order w ranking f).cmp r (length (n.rhs r)) r' (length (n.rhs r')) ≡ (rank_order w ranking).cmp (n.source r) (length (n.rhs r)) (n.source r') (length (n.rhs r'))
  slot_rules slot r r' lt lt' some some' e same =
      let rule = is_real r lt some in
      let rule' = is_real r' lt' some' in
      let l = lefts r r' rule rule' same in
      let is = form_slot f w flat made checked (symbol_at f (lhs_of f r)) slot (symbol_is r (FlatSlot slot) rule e) in
      let is' = ap (symbol_at f) (sym l) ∙ is in
      let zero_length : list_length f r ≡ 0 = ap (λ z. cond (is_list z) (length (rhs_of f r)) 0) is in
      let zero_length' : list_length f r' ≡ 0 = ap (λ z. cond (is_list z) (length (rhs_of f r')) 0) is' in
      ap (λ o. ordering_then o (ordering_then (nat_cmp (list_length f r') (list_length f r)) (ordering_then (rule_cmp w ranking (n.source r) (length (n.rhs r)) (n.source r') (length (n.rhs r'))) (nat_cmp r r')))) (nat_cmp-same _ _ l)
      ∙ ap (λ o. ordering_then o (ordering_then (rule_cmp w ranking (n.source r) (length (n.rhs r)) (n.source r') (length (n.rhs r'))) (nat_cmp r r'))) (nat_cmp-same _ _ (zero_length' ∙ sym zero_length))
      ∙ then_tie _ _ (λ tie. nat_cmp-same _ _ (slot_same r r' rule rule' slot.symbol slot.level is l tie))

  -- ---- the rules of a list

  list_kind : (i r : ℕ) → IsRule f r → n.symbol (n.lhs r) ≡ FlatList i → (source_of f r ≡ Written i) × ListRight w i (name_at r).right
  list_kind i r rule e =
      let (src, right) = list_right w (name_at r) (is_rule f w flat made checked r rule) i (left_is f w flat made checked r ∙ form_list f w flat made checked (symbol_at f (lhs_of f r)) i (symbol_is r (FlatList i) rule e)) in
      (sym (source_is f w flat made checked r) ∙ src, right)

  -- the symbol at a place of the right side
  place_is : (r k : ℕ) → IsRule f r → k < length (name_at r).right → symbol_at f (slice_index (n.rhs r) k) ≡ slice_index_or (name_at r).right k (Top 0)
  place_is r k rule lt =
      let len = length_is f w flat made checked r in
      ap (λ z. symbol_at f (slice_index z k)) (rhs_is f w flat made checked r rule) ∙ sym (part_is f w flat made checked r k (omega arith))

  abbrev PlacesAre : ℕ → Type 0
  PlacesAre r = (k : ℕ) → k < length (name_at r).right → symbol_at f (slice_index (n.rhs r) k) ≡ slice_index_or (name_at r).right k (Top 0)

  list_rules : (i r : ℕ) → r < length F.rules → 0 < length (n.rhs r) → n.symbol (n.lhs r) ≡ FlatList i →
      (length (n.rhs r) ≡ 1) × StandsFor (n.symbol (slice_index (n.rhs r) 0)) (child_slot (rule_at w i) 0) ⊎ IsLong n i r
  list_rules i r lt some e =
      let rule = is_real r lt some in
      let kind = list_kind i r rule e in
      go kind.1 (count_is r rule) (λ k h. place_is r k rule h)
    where
      go : ListRight w i (name_at r).right → length (name_at r).right ≡ length (n.rhs r) → PlacesAre r →
          (length (n.rhs r) ≡ 1) × StandsFor (n.symbol (slice_index (n.rhs r) 0)) (child_slot (rule_at w i) 0) ⊎ IsLong n i r
      go (ByItem q b is st e') count at =
          let len = ap length e' in
          let first : symbol_at f (slice_index (n.rhs r) 0) ≡ b = at 0 (omega arith) ∙ ap (λ z. slice_index_or z 0 (Top 0)) e' in
          let stands : StandsFor (form b) (slot_of q.item) = stands_for w (slot_of q.item) b st (λ t. refl) in
          let slot : slot_of q.item ≡ child_slot (rule_at w i) 0 = ap slot_of (sym (item_first q.item q.separator)) ∙ ap (λ z. child_slot z 0) (sym is) in
          inl (sym count ∙ len, subst (λ z. StandsFor (form z) (child_slot (rule_at w i) 0)) (sym first) (subst (StandsFor (form b)) slot stands))
      go (ByItems q b is none st e') count at =
          let len = ap length e' in
          inr (omega arith, ap form (at 0 (omega arith) ∙ ap (λ z. slice_index_or z 0 (Top 0)) e'))
      go (BySeparated q x b c is sep st st' e') count at =
          let len = ap length e' in
          inr (omega arith, ap form (at 0 (omega arith) ∙ ap (λ z. slice_index_or z 0 (Top 0)) e'))

  abbrev ListOrder : ℕ → ℕ → Type 0
  ListOrder r r' = (r ≡ r')
      ⊎ ((2 ≤ length (n.rhs r)) × (length (n.rhs r') ≡ 1) × ((flat_order w ranking f).cmp r (length (n.rhs r)) r' 1 ≡ Less))
      ⊎ ((length (n.rhs r) ≡ 1) × (2 ≤ length (n.rhs r')) × ((flat_order w ranking f).cmp r 1 r' (length (n.rhs r')) ≡ Greater))

  list_order : (i r r' : ℕ) → r < length F.rules → r' < length F.rules → 0 < length (n.rhs r) → 0 < length (n.rhs r') → n.symbol (n.lhs r) ≡ FlatList i → n.lhs r ≡ n.lhs r' → ListOrder r r'
  list_order i r r' lt lt' some some' e same =
      let rule = is_real r lt some in
      let rule' = is_real r' lt' some' in
      let kind = list_kind i r rule e in
      let kind' = list_kind i r' rule' (ap n.symbol (sym same) ∙ e) in
      go rule rule' (lefts r r' rule rule' same) (kind.0 ∙ sym kind'.0) kind.1 kind'.1 (count_is r rule) (count_is r' rule') (long rule e) (long rule' (ap n.symbol (sym same) ∙ e))
    where
      -- a list's rule counts by its length
      long : {q : ℕ} → IsRule f q → n.symbol (n.lhs q) ≡ FlatList i → list_length f q ≡ length (n.rhs q)
      long {q = q} rule h =
          ap (λ z. cond (is_list z) (length (rhs_of f q)) 0) (form_list f w flat made checked (symbol_at f (lhs_of f q)) i (symbol_is q (FlatList i) rule h)) ∙ sym (ap length (rhs_is f w flat made checked q rule))

      less : (m m' : ℕ) → lhs_of f r ≡ lhs_of f r' → list_length f r' < list_length f r → (flat_order w ranking f).cmp r m r' m' ≡ Less
      less m m' l h =
          ap (λ o. ordering_then o (ordering_then (nat_cmp (list_length f r') (list_length f r)) (ordering_then (rule_cmp w ranking (source_number w (source_of f r)) m (source_number w (source_of f r')) m') (nat_cmp r r')))) (nat_cmp-same _ _ l)
          ∙ ap (λ o. ordering_then o (ordering_then (rule_cmp w ranking (source_number w (source_of f r)) m (source_number w (source_of f r')) m') (nat_cmp r r'))) (nat_cmp-less _ _ h)

      greater : (m m' : ℕ) → lhs_of f r ≡ lhs_of f r' → list_length f r < list_length f r' → (flat_order w ranking f).cmp r m r' m' ≡ Greater
      greater m m' l h =
          ap (λ o. ordering_then o (ordering_then (nat_cmp (list_length f r') (list_length f r)) (ordering_then (rule_cmp w ranking (source_number w (source_of f r)) m (source_number w (source_of f r')) m') (nat_cmp r r')))) (nat_cmp-same _ _ l)
          ∙ ap (λ o. ordering_then o (ordering_then (rule_cmp w ranking (source_number w (source_of f r)) m (source_number w (source_of f r')) m') (nat_cmp r r'))) (nat_cmp-greater _ _ h)

      both : IsRule f r → IsRule f r' → lhs_of f r ≡ lhs_of f r' → source_of f r ≡ source_of f r' → ListRight w i (name_at r).right → ListRight w i (name_at r').right → length (name_at r).right ≡ length (name_at r').right → ListOrder r r'
      both rule rule' l s a b len = inl (one_rule r r' rule rule' l s (one_list w i (name_at r).right (name_at r').right a b len))

      clash : (q q' : SequenceRule) → rule_at w i ≡ Grammar.Sequence q → rule_at w i ≡ Grammar.Sequence q' → (x : ℕ) → q.separator ≡ None → q'.separator ≡ Some x → ⊥
      clash q q' is is' x none sep =
          let same : Grammar.Sequence q ≡ Grammar.Sequence q' = sym is ∙ is' in
          let qq : q ≡ q' = cc in
          let bad : None ≡ Some x = sym none ∙ ap (λ (z : SequenceRule). z.separator) qq ∙ sep in cc

      go : IsRule f r → IsRule f r' → lhs_of f r ≡ lhs_of f r' → source_of f r ≡ source_of f r' → ListRight w i (name_at r).right → ListRight w i (name_at r').right → length (name_at r).right ≡ length (n.rhs r) → length (name_at r').right ≡ length (n.rhs r') →
          list_length f r ≡ length (n.rhs r) → list_length f r' ≡ length (n.rhs r') → ListOrder r r'
      go rule rule' l s (ByItem q b is st e') (ByItem q' b' is' st' e'') c c' k k' = both rule rule' l s (ByItem q b is st e') (ByItem q' b' is' st' e'') (ap length e' ∙ sym (ap length e''))
      go rule rule' l s (ByItem q b is st e') (ByItems q' b' is' none st' e'') c c' k k' =
          let a = ap length e' in let a' = ap length e'' in inr (inr (omega arith, omega arith, greater 1 (length (n.rhs r')) l (omega arith)))
      go rule rule' l s (ByItem q b is st e') (BySeparated q' x b' d is' sep st' su e'') c c' k k' =
          let a = ap length e' in let a' = ap length e'' in inr (inr (omega arith, omega arith, greater 1 (length (n.rhs r')) l (omega arith)))
      go rule rule' l s (ByItems q b is none st e') (ByItem q' b' is' st' e'') c c' k k' =
          let a = ap length e' in let a' = ap length e'' in inr (inl (omega arith, omega arith, less (length (n.rhs r)) 1 l (omega arith)))
      go rule rule' l s (ByItems q b is none st e') (ByItems q' b' is' none' st' e'') c c' k k' =
          both rule rule' l s (ByItems q b is none st e') (ByItems q' b' is' none' st' e'') (ap length e' ∙ sym (ap length e''))
      go rule rule' l s (ByItems q b is none st e') (BySeparated q' x b' d is' sep st' su e'') c c' k k' = absurd (clash q q' is is' x none sep)
      go rule rule' l s (BySeparated q x b d is sep st st' e') (ByItem q' b' is' su e'') c c' k k' =
          let a = ap length e' in let a' = ap length e'' in inr (inl (omega arith, omega arith, less (length (n.rhs r)) 1 l (omega arith)))
      go rule rule' l s (BySeparated q x b d is sep st st' e') (ByItems q' b' is' none su e'') c c' k k' = absurd (clash q' q is' is x none sep)
      go rule rule' l s (BySeparated q x b d is sep st st' e') (BySeparated q' x' b' d' is' sep' su su' e'') c c' k k' =
          both rule rule' l s (BySeparated q x b d is sep st st' e') (BySeparated q' x' b' d' is' sep' su su' e'') (ap length e' ∙ sym (ap length e''))

  -- the last part of a list's rule is an item, which spans a place
  items_span : (i r k : ℕ) → r < length F.rules → n.symbol (n.lhs r) ≡ FlatList i → length (n.rhs r) ≡ suc k → Analysis.IsNullable F (slot_of (slice_index (n.rhs r) k)) → ⊥
  items_span i r k lt e len null =
      let rule = is_real r lt (omega arith) in
      let kind = list_kind i r rule e in
      go kind.1 (count_is r rule) (λ j h. place_is r j rule h)
    where
      refuse : (q : SequenceRule) (b : FlatSymbol) → rule_at w i ≡ Grammar.Sequence q → Stands w (slot_of q.item) b → symbol_at f (slice_index (n.rhs r) k) ≡ b → ⊥
      refuse q b is (AsTerminal t) at =
          let inner : IsInner (form (symbol_at f (slice_index (n.rhs r) k))) = subst (λ z. IsInner (form z)) (sym at) tt in
          let (slot, bad, h) = view_nulled f w flat made checked edge (slice_index (n.rhs r) k) inner null in
          let worse : FlatTerminal q.item ≡ FlatSlot slot = sym (ap form at) ∙ bad in cc
      refuse q b is (AsSlot other) at =
          let inner : IsInner (form (symbol_at f (slice_index (n.rhs r) k))) = subst (λ z. IsInner (form z)) (sym at) tt in
          let (slot, same, h) = view_nulled f w flat made checked edge (slice_index (n.rhs r) k) inner null in
          let slots : FlatSlot (slot_of q.item) ≡ FlatSlot slot = sym (ap form at) ∙ same in
          let slot_is : slot ≡ slot_of q.item = cc in
          let item : Analysis.IsNullable w (child_slot (Grammar.Sequence q) 0) = subst (Analysis.IsNullable w) (slot_is ∙ ap slot_of (sym (item_first q.item q.separator))) h in
          checked.items_span i (sequence_in_range f w flat made checked edge i q is) (q, is, (0, omega arith, item))

      go : ListRight w i (name_at r).right → length (name_at r).right ≡ length (n.rhs r) → PlacesAre r → ⊥
      go (ByItem q b is st e') count at =
          let a = ap length e' in let z : k ≡ 0 = omega arith in
          refuse q b is st (at k (omega arith) ∙ (λ v. slice_index_or (e' v) (z v) (Top 0)))
      go (ByItems q b is none st e') count at =
          let a = ap length e' in let z : k ≡ 1 = omega arith in
          refuse q b is st (at k (omega arith) ∙ (λ v. slice_index_or (e' v) (z v) (Top 0)))
      go (BySeparated q x b c is sep st st' e') count at =
          let a = ap length e' in let z : k ≡ 2 = omega arith in
          refuse q b is st' (at k (omega arith) ∙ (λ v. slice_index_or (e' v) (z v) (Top 0)))

  pub keeps : KeepsOrder F w n (flat_order w ranking f) (rank_order w ranking)
  keeps = record { null_high = λ r. refl; slot_rules = slot_rules; list_rules = list_rules; list_order = list_order; items_span = items_span }
