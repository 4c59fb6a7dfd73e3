-- Flat derivations compare as what they stand for.
use Rattle.std.proofs.Common.{◌≡◌, ℕ, suc, ◌<◌, ◌≤◌, Bool, true, false, length, ◌⊎◌, inl, inr, refl, sym, ap, ◌∙◌, subst, arith}
use Rattle.std.specs.Prelude.{slice_index}
use Rattle.std.proofs.lemmas.Bool.{true≢false, cond-true, cond-false}
use Rattle.std.specs.declared.cmp.Ordering.{Ordering}
use Rattle.std.specs.declared.cmp.Ordering.TheVariants.{Less, Equal, Greater}
use Rattle.std.specs.Ordering.{ordering_then, ordering_reverse, nat_cmp}
use Rattle.std.specs.Cmp.{tied_itself}
use Rattle.finite_sets.proofs.Clauses.{nat_cmp-Equal, then_equal, nat_cmp-less}
use Rattle.grammar_model.specs.Grammar.{Grammar, Slot, slot_of, rule_at, child_slot}
use Rattle.grammar_model.specs.Trees.{Tree, Children, Leaf, Nulled, Node, NoChild, Child, child_count, from_of}
use Rattle.grammar_model.specs.Analysis.{IsNullable}
use Rattle.grammar_model.specs.Derives.{Edges, Derives, DerivesPrefix}
use Rattle.grammar_model.specs.Order.{IsRuleOrder, RuleOrder, null_place, start_cmp, tree_cmp, children_cmp}
use Rattle.recognizer_model.specs.FlatForm.{join}
use Rattle.recognizer_model.proofs.Forms.{FlatSymbol, FlatTerminal, FlatSlot, FlatList, FlatTop, FlatNames, IsFlatOf, IsHead, IsInner, IsPart, StandsFor, tree_of, children_of, inside, KeepsOrder, IsLong}
use Rattle.grammar_model.proofs.Total.{from_is}
use Rattle.grammar_model.proofs.Compose.{GoForward}
use Rattle.recognizer_model.proofs.FlatSound.{Alike, has_parts, not_list, list_node, join-NoChild, prefix_sound, inner_from, inner_list}

then_same : (a a' b b' : Ordering) → a ≡ a' → (a ≡ Equal → b ≡ b') → ordering_then a b ≡ ordering_then a' b'
then_same Less a' b b' e h = ap (λ o. ordering_then o b') e
then_same Equal a' b b' e h = h refl ∙ ap (λ o. ordering_then o b') e
then_same Greater a' b b' e h = ap (λ o. ordering_then o b') e

same_place : (high : Bool) (n : FlatNames) (t : Tree) → null_place high t ≡ null_place high (tree_of n t)
same_place high n (Leaf x a b) = refl
same_place true n (Nulled x a) = refl
same_place false n (Nulled x a) = refl
same_place high n (Node r cs a b) = refl

same_from : (n : FlatNames) (t : Tree) → from_of t ≡ from_of (tree_of n t)
same_from n (Leaf x a b) = refl
same_from n (Nulled x a) = refl
same_from n (Node r cs a b) = refl

same_start : (high : Bool) (n : FlatNames) (t u : Tree) → start_cmp high t u ≡ start_cmp high (tree_of n t) (tree_of n u)
same_start high n t u = λ i. ordering_then (nat_cmp (same_place high n t i) (same_place high n u i)) (nat_cmp (same_from n u i) (same_from n t i))

module _ (f g : Grammar) (n : FlatNames) (flat_edge edge : Edges) (laws : IsFlatOf f g n flat_edge edge) (forward : GoForward flat_edge)
    (flat written : RuleOrder) (flat_laws : IsRuleOrder flat) (keeps : KeepsOrder f g n flat written)
    (trailing : (i m m' j k k' : ℕ) → Alike (rule_at g i) m m' → Alike (rule_at g j) k k' → written.cmp i m j k ≡ written.cmp i m' j k') where
  rule_prefix : (r p q : ℕ) (cs : Children) (r' : ℕ) → r ≡ r' → DerivesPrefix f flat_edge (rule_at f r') p q cs → DerivesPrefix f flat_edge (rule_at f r) p q cs
  rule_prefix r p q cs r' e d = subst (λ z. DerivesPrefix f flat_edge (rule_at f z) p q cs) (sym e) d

  -- the rules of two nodes of one slot
  rules_same : (x p q r r' : ℕ) (cs ds : Children) (a b a' b' : ℕ) (symbol : FlatSymbol) (slot : Slot) → n.symbol x ≡ symbol → StandsFor symbol slot → Derives f flat_edge (slot_of x) p q (Node r cs a b) → Derives f flat_edge (slot_of x) p q (Node r' ds a' b') →
      flat.cmp r (child_count cs) r' (child_count ds) ≡ written.cmp (n.source r) (child_count (children_of n cs)) (n.source r') (child_count (children_of n ds))
  rules_same x p q r r' cs ds a b a' b' (FlatTerminal s) slot e st d d' =
      let h = has_parts f g n flat_edge edge laws x p q r cs a b d in
      absurd (subst (λ z. Rattle.recognizer_model.proofs.Forms.IsHead g z (n.source r) (length (n.rhs r))) (ap n.symbol h.1 ∙ e) (laws.head r d.in_range h.2))
  rules_same x p q r r' cs ds a b a' b' (FlatSlot s) slot e st d d' =
      let h = has_parts f g n flat_edge edge laws x p q r cs a b d in
      let h' = has_parts f g n flat_edge edge laws x p q r' ds a' b' d' in
      let s1 = prefix_sound f g n flat_edge edge laws cs r p q d.in_range (subst IsInner (sym (ap n.symbol h.1 ∙ e)) tt) (omega (arith, h.0)) d.prefix in
      let s2 = prefix_sound f g n flat_edge edge laws ds r' p q d'.in_range (subst IsInner (sym (ap n.symbol h'.1 ∙ e)) tt) (omega (arith, h'.0)) d'.prefix in
      (λ i. flat.cmp r (h.0 i) r' (h'.0 i))
      ∙ keeps.slot_rules s r r' d.in_range d'.in_range h.2 h'.2 (ap n.symbol h.1 ∙ e) (h.1 ∙ sym h'.1)
      ∙ (λ i. written.cmp (n.source r) (sym h.0 i) (n.source r') (sym h'.0 i))
      ∙ trailing (n.source r) _ _ (n.source r') _ _ s1.1 s2.1
  rules_same x p q r r' cs ds a b a' b' (FlatList i) slot e st d d' = absurd st
  rules_same x p q r r' cs ds a b a' b' (FlatTop k) slot e st d d' = absurd st

  starts_same : (x m m' q : ℕ) (high : Bool) (t u : Tree) → Derives f flat_edge (slot_of x) m q t → Derives f flat_edge (slot_of x) m' q u → start_cmp high t u ≡ Equal → m ≡ m'
  starts_same x m m' q high t u d d' e =
      sym (from_is f flat_edge (slot_of x) m q t d) ∙ sym (nat_cmp-Equal _ _ (then_equal _ _ e).1) ∙ from_is f flat_edge (slot_of x) m' q u d'

  -- two lists of a rule's first children whose last ones stand for slots
  step_same : (prefix prefix' : Children) (t u : Tree) (high : Bool) (x m m' q : ℕ) (slot : Slot) → StandsFor (n.symbol x) slot → Derives f flat_edge (slot_of x) m q t → Derives f flat_edge (slot_of x) m' q u →
      (m ≡ m' → children_cmp flat high prefix prefix' ≡ children_cmp written high (children_of n prefix) (children_of n prefix')) →
      (m ≡ m' → tree_cmp flat t u ≡ tree_cmp written (tree_of n t) (tree_of n u)) →
      children_cmp flat high (Child prefix t) (Child prefix' u) ≡ children_cmp written high (children_of n (Child prefix t)) (children_of n (Child prefix' u))
  step_same prefix prefix' t u high x m m' q slot s d d' ih ih' =
      then_same _ _ _ _ (same_start high n t u) (λ e. let same = starts_same x m m' q high t u d d' e in (λ i. ordering_then (ih same i) (ih' same i)))
      ∙ (λ i. children_cmp written high
      (sym (cond-false _ (join (children_of n prefix) (inside n t)) (Child (children_of n prefix) (tree_of n t)) (not_list f g n flat_edge edge laws x m q slot t d s)) i)
      (sym (cond-false _ (join (children_of n prefix') (inside n u)) (Child (children_of n prefix') (tree_of n u)) (not_list f g n flat_edge edge laws x m' q slot u d' s)) i))

  nat_cmp-greater : (a b : ℕ) → b < a → nat_cmp a b ≡ Greater
  nat_cmp-greater a b h = Rattle.std.specs.Cmp.nat_cmp_total.antisymm a b ∙ ap ordering_reverse (nat_cmp-less b a h)

  goes_on : (slot : Slot) (p q : ℕ) (t : Tree) → Derives f flat_edge slot p q t → p ≤ q
  goes_on slot p q (Leaf s a b) d = let h = forward s a b d.held in let e = d.from_is in let e' = d.to_is in omega arith
  goes_on slot p q (Nulled s a) d = let e = d.from_is in let e' = d.to_is in omega arith
  goes_on slot p q (Node i cs a b) d = let h = d.spans in omega arith

  -- a tree that is not nulled
  full : (high : Bool) (slot : Slot) (p q : ℕ) (t : Tree) → Derives f flat_edge slot p q t → (IsNullable f slot → ⊥) → null_place high t ≡ 1
  full high slot p q (Leaf s a b) d solid = refl
  full high slot p q (Nulled s a) d solid = absurd (solid d.nullable)
  full high slot p q (Node i cs a b) d solid = refl

  list_spans : (x p q i : ℕ) (t : Tree) → Derives f flat_edge (slot_of x) p q t → n.symbol x ≡ FlatList i → p < q
  list_spans x p q i (Leaf y a b) d e = absurd (true≢false (sym (list_node f g n flat_edge edge laws x p q i (Leaf y a b) d e)))
  list_spans x p q i (Nulled y a) d e = absurd (true≢false (sym (list_node f g n flat_edge edge laws x p q i (Nulled y a) d e)))
  list_spans x p q i (Node r cs a b) d e = d.spans

  flat_last : (r k m q : ℕ) (t : Tree) → r < length f.rules → Derives f flat_edge (child_slot (rule_at f r) k) m q t → Derives f flat_edge (slot_of (slice_index (n.rhs r) k)) m q t
  flat_last r k m q t lt d = subst (λ rule. Derives f flat_edge (child_slot rule k) m q t) (laws.flat r lt) d

  -- the first children of a list's longer rule span a place
  long_spans : (i r p m : ℕ) (prefix : Children) → r < length f.rules → n.symbol (slice_index (n.rhs r) 0) ≡ FlatList i → DerivesPrefix f flat_edge (rule_at f r) p m prefix → 0 < child_count prefix → p < m
  long_spans i r p m NoChild lt e d h = absurd (omega arith)
  long_spans i r p m (Child NoChild t) lt e d h =
      let s = list_spans (slice_index (n.rhs r) 0) d.0 m i t (flat_last r 0 d.0 m t lt d.2) e in
      let z = d.1 in omega arith
  long_spans i r p m (Child (Child prefix c) t) lt e d h =
      let a = long_spans i r p d.0 (Child prefix c) lt e d.1 (omega arith) in
      let b = goes_on _ d.0 m t d.2 in
      omega arith

  -- the last children of the longer rule and of the shorter
  lasts_at : (i r r' p m q k : ℕ) (high : Bool) (t u : Tree) → r < length f.rules → r' < length f.rules → n.symbol (n.lhs r) ≡ FlatList i → n.symbol (n.lhs r') ≡ FlatList i → length (n.rhs r) ≡ suc k → length (n.rhs r') ≡ 1 →
      Derives f flat_edge (slot_of (slice_index (n.rhs r) k)) m q t → Derives f flat_edge (slot_of (slice_index (n.rhs r') 0)) p q u →
      (start_cmp high t u ≡ nat_cmp p m) × (start_cmp high u t ≡ nat_cmp m p)
  lasts_at i r r' p m q k high t u lt lt' e e' l l' d d' =
      let a = full high _ m q t d (keeps.items_span i r k lt e l) in
      let b = full high _ p q u d' (keeps.items_span i r' 0 lt' e' l') in
      let c = from_is f flat_edge _ m q t d in
      let c' = from_is f flat_edge _ p q u d' in
      ((λ j. ordering_then (nat_cmp (a j) (b j)) (nat_cmp (c' j) (c j))), (λ j. ordering_then (nat_cmp (b j) (a j)) (nat_cmp (c j) (c' j))))

  -- the longer list first
  long_short : (i x r r' p q : ℕ) (cs ds : Children) (a b a' b' : ℕ) (high : Bool) → n.symbol x ≡ FlatList i → 2 ≤ length (n.rhs r) → length (n.rhs r') ≡ 1 →
      Derives f flat_edge (slot_of x) p q (Node r cs a b) → Derives f flat_edge (slot_of x) p q (Node r' ds a' b') →
      (children_cmp written high (children_of n cs) (children_of n ds) ≡ Less) × (children_cmp written high (children_of n ds) (children_of n cs) ≡ Greater)
  long_short i x r r' p q cs ds a b a' b' high e long short d d' =
      let h = has_parts f g n flat_edge edge laws x p q r cs a b d in
      let h' = has_parts f g n flat_edge edge laws x p q r' ds a' b' d' in
      go cs ds h.0 h'.0 (ap n.symbol h.1 ∙ e) (ap n.symbol h'.1 ∙ e) d.prefix d'.prefix
    where
      stands : (k : ℕ) → k < length (n.rhs r) → 1 ≤ k → IsPart g (n.symbol (slice_index (n.rhs r) k)) (n.source r) k → StandsFor (n.symbol (slice_index (n.rhs r) k)) (child_slot (rule_at g (n.source r)) k)
      stands k lt one (inl s) = s
      stands k lt one (inr z) = let z0 = z.0 in absurd (omega arith)

      first_is : (length (n.rhs r) ≡ 1) × StandsFor (n.symbol (slice_index (n.rhs r) 0)) (child_slot (rule_at g i) 0) ⊎ IsLong n i r → n.symbol (slice_index (n.rhs r) 0) ≡ FlatList i
      first_is (inl s) = let z = s.0 in absurd (omega arith)
      first_is (inr l) = l.1

      only_is : (length (n.rhs r') ≡ 1) × StandsFor (n.symbol (slice_index (n.rhs r') 0)) (child_slot (rule_at g i) 0) ⊎ IsLong n i r' → StandsFor (n.symbol (slice_index (n.rhs r') 0)) (child_slot (rule_at g i) 0)
      only_is (inl s) = s.1
      only_is (inr l) = let z = l.0 in absurd (omega arith)

      go : (cs ds : Children) → child_count cs ≡ length (n.rhs r) → child_count ds ≡ length (n.rhs r') → n.symbol (n.lhs r) ≡ FlatList i → n.symbol (n.lhs r') ≡ FlatList i →
          DerivesPrefix f flat_edge (rule_at f r) p q cs → DerivesPrefix f flat_edge (rule_at f r') p q ds →
          (children_cmp written high (children_of n cs) (children_of n ds) ≡ Less) × (children_cmp written high (children_of n ds) (children_of n cs) ≡ Greater)
      go NoChild ds c c' y y' fr fr' = absurd (omega arith)
      go (Child prefix t) NoChild c c' y y' fr fr' = absurd (omega arith)
      go (Child prefix t) (Child (Child prefix' v) u) c c' y y' fr fr' = absurd (omega arith)
      go (Child prefix t) (Child NoChild u) c c' y y' (m, fr, l) (m', fr', l') =
          let k = child_count prefix in
          let t' = flat_last r k m q t d.in_range l in
          let u' = subst (λ z. Derives f flat_edge (slot_of (slice_index (n.rhs r') 0)) z q u) (sym fr') (flat_last r' 0 m' q u d'.in_range l') in
          let s = stands k (omega arith) (omega arith) (laws.part r k d.in_range (omega arith) (inner_list (n.symbol (n.lhs r)) i y)) in
          let s' = only_is (keeps.list_rules i r' d'.in_range (omega arith) y') in
          let at = lasts_at i r r' p m q k high t u d.in_range d'.in_range y y' (sym c) short t' u' in
          let pm = long_spans i r p m prefix d.in_range (first_is (keeps.list_rules i r d.in_range (omega arith) y)) fr (omega arith) in
          let one = cond-false _ (join (children_of n prefix) (inside n t)) (Child (children_of n prefix) (tree_of n t)) (not_list f g n flat_edge edge laws _ m q _ t t' s) in
          let two = cond-false _ (join NoChild (inside n u)) (Child NoChild (tree_of n u)) (not_list f g n flat_edge edge laws _ p q _ u u' s') in (
            (λ j. children_cmp written high (one j) (two j)) ∙ ap (λ o. ordering_then o (ordering_then (children_cmp written high (children_of n prefix) NoChild) (tree_cmp written (tree_of n t) (tree_of n u)))) (sym (same_start high n t u) ∙ at.0 ∙ nat_cmp-less p m pm),
            (λ j. children_cmp written high (two j) (one j)) ∙ ap (λ o. ordering_then o (ordering_then (children_cmp written high NoChild (children_of n prefix)) (tree_cmp written (tree_of n u) (tree_of n t)))) (sym (same_start high n u t) ∙ at.1 ∙ nat_cmp-greater m p pm),
          )

  -- a rule's own children, and the high flag under which they compare
  abbrev own_high : ℕ → Bool
  own_high r = written.null_high (n.source r)

  prefix_cases : (cs ds : Children) (t u : Tree) (r p q m m' : ℕ) → DerivesPrefix f flat_edge (rule_at f r) p m cs → DerivesPrefix f flat_edge (rule_at f r) p m' ds →
      Derives f flat_edge (slot_of (slice_index (n.rhs r) (child_count cs))) m q t → Derives f flat_edge (slot_of (slice_index (n.rhs r) (child_count cs))) m' q u → child_count ds ≡ child_count cs →
      IsPart g (n.symbol (slice_index (n.rhs r) (child_count cs))) (n.source r) (child_count cs) →
      (m ≡ m' → children_cmp flat (own_high r) cs ds ≡ children_cmp written (own_high r) (children_of n cs) (children_of n ds)) →
      (m ≡ m' → (slot : Slot) → StandsFor (n.symbol (slice_index (n.rhs r) (child_count cs))) slot → tree_cmp flat t u ≡ tree_cmp written (tree_of n t) (tree_of n u)) →
      (m ≡ m' → n.symbol (slice_index (n.rhs r) (child_count cs)) ≡ FlatList (n.source r) → tree_cmp flat t u ≡ children_cmp written (own_high r) (inside n t) (inside n u)) →
      children_cmp flat (own_high r) (Child cs t) (Child ds u) ≡ children_cmp written (own_high r) (children_of n (Child cs t)) (children_of n (Child ds u))
  prefix_cases cs ds t u r p q m m' fr fr' d d' c (inl s) ih as_tree as_list =
      step_same cs ds t u (own_high r) (slice_index (n.rhs r) (child_count cs)) m m' q _ s d d' ih (λ z. as_tree z _ s)
  prefix_cases NoChild NoChild t u r p q m m' fr fr' d d' c (inr e) ih as_tree as_list =
      let same : m ≡ m' = sym fr ∙ fr' in
      let a = list_full t m d e.1 in
      let b = list_full u m' d' e.1 in
      let x = from_is f flat_edge _ m q t d in
      let y = from_is f flat_edge _ m' q u d' in
      let starts : start_cmp (own_high r) t u ≡ Equal = (λ j. ordering_then (nat_cmp (a j) (b j)) (nat_cmp (y j) (x j))) ∙ ap (λ z. nat_cmp z m) (sym same) ∙ tied_itself Rattle.std.specs.Cmp.nat_cmp_total m in
      let one = cond-true _ (join NoChild (inside n t)) (Child NoChild (tree_of n t)) (list_node f g n flat_edge edge laws _ m q _ t d e.1) ∙ join-NoChild (inside n t) in
      let two = cond-true _ (join NoChild (inside n u)) (Child NoChild (tree_of n u)) (list_node f g n flat_edge edge laws _ m' q _ u d' e.1) ∙ join-NoChild (inside n u) in
      ap (λ o. ordering_then o (tree_cmp flat t u)) starts ∙ as_list same e.1 ∙ (λ j. children_cmp written (own_high r) (sym one j) (sym two j))
    where
      list_full : (v : Tree) (w : ℕ) → Derives f flat_edge (slot_of (slice_index (n.rhs r) 0)) w q v → n.symbol (slice_index (n.rhs r) 0) ≡ FlatList (n.source r) → null_place (own_high r) v ≡ 1
      list_full (Leaf s a b) w d e = refl
      list_full (Nulled s a) w d e = absurd (true≢false (sym (list_node f g n flat_edge edge laws _ w q _ (Nulled s a) d e)))
      list_full (Node i cs a b) w d e = refl
  prefix_cases NoChild (Child ds v) t u r p q m m' fr fr' d d' c (inr e) ih as_tree as_list = absurd (omega arith)
  prefix_cases (Child cs v) ds t u r p q m m' fr fr' d d' c (inr e) ih as_tree as_list = let z = e.0 in absurd (omega arith)

  list_source : (i : ℕ) (r len : ℕ) (symbol : FlatSymbol) → symbol ≡ FlatList i → IsHead g symbol (n.source r) len → n.source r ≡ i
  list_source i r len symbol e h = (subst (λ z. IsHead g z (n.source r) len) e h).0

  list_nodes : (x i p q r r' : ℕ) (cs ds : Children) (a b a' b' : ℕ) → n.symbol x ≡ FlatList i → Derives f flat_edge (slot_of x) p q (Node r cs a b) → Derives f flat_edge (slot_of x) p q (Node r' ds a' b') →
      (r ≡ r' → children_cmp flat (own_high r) cs ds ≡ children_cmp written (own_high r) (children_of n cs) (children_of n ds)) →
      tree_cmp flat (Node r cs a b) (Node r' ds a' b') ≡ children_cmp written (written.null_high i) (children_of n cs) (children_of n ds)
  list_nodes x i p q r r' cs ds a b a' b' e d d' ih =
      let h = has_parts f g n flat_edge edge laws x p q r cs a b d in
      let h' = has_parts f g n flat_edge edge laws x p q r' ds a' b' d' in
      let y = ap n.symbol h.1 ∙ e in
      go h.0 h'.0 (list_source i r (length (n.rhs r)) (n.symbol (n.lhs r)) y (laws.head r d.in_range h.2)) (keeps.list_order i r r' d.in_range d'.in_range h.2 h'.2 y (h.1 ∙ sym h'.1))
    where
      go : child_count cs ≡ length (n.rhs r) → child_count ds ≡ length (n.rhs r') → n.source r ≡ i →
          (r ≡ r') ⊎ ((2 ≤ length (n.rhs r)) × (length (n.rhs r') ≡ 1) × (flat.cmp r (length (n.rhs r)) r' 1 ≡ Less)) ⊎ ((length (n.rhs r) ≡ 1) × (2 ≤ length (n.rhs r')) × (flat.cmp r 1 r' (length (n.rhs r')) ≡ Greater)) →
          tree_cmp flat (Node r cs a b) (Node r' ds a' b') ≡ children_cmp written (written.null_high i) (children_of n cs) (children_of n ds)
      go c c' so (inl r_is) =
          let same : flat.cmp r (child_count cs) r' (child_count ds) ≡ Equal = (λ j. flat.cmp r (c j) (sym r_is j) (c' j)) ∙ (λ j. flat.cmp r (length (n.rhs r)) r (length (n.rhs (sym r_is j)))) ∙ tied_itself flat_laws.total (r, length (n.rhs r)) in
          ap (λ o. ordering_then o (children_cmp flat (flat.null_high r) cs ds)) same
          ∙ ap (λ hi. children_cmp flat hi cs ds) (keeps.null_high r) ∙ ih r_is ∙ ap (λ z. children_cmp written (written.null_high z) (children_of n cs) (children_of n ds)) so
      go c c' so (inr (inl (long, short, less))) =
          let first : flat.cmp r (child_count cs) r' (child_count ds) ≡ Less = (λ j. flat.cmp r (c j) r' ((c' ∙ short) j)) ∙ less in
          ap (λ o. ordering_then o (children_cmp flat (flat.null_high r) cs ds)) first
          ∙ sym (long_short i x r r' p q cs ds a b a' b' (written.null_high i) e long short d d').0
      go c c' so (inr (inr (short, long, greater))) =
          let first : flat.cmp r (child_count cs) r' (child_count ds) ≡ Greater = (λ j. flat.cmp r ((c ∙ short) j) r' (c' j)) ∙ greater in
          ap (λ o. ordering_then o (children_cmp flat (flat.null_high r) cs ds)) first
          ∙ sym (long_short i x r' r p q ds cs a' b' a b (written.null_high i) e long short d' d).1

  mutual
    pub tree_same : (t u : Tree) (x p q : ℕ) (slot : Slot) → StandsFor (n.symbol x) slot → Derives f flat_edge (slot_of x) p q t → Derives f flat_edge (slot_of x) p q u → tree_cmp flat t u ≡ tree_cmp written (tree_of n t) (tree_of n u)
    tree_same (Node r cs a b) (Node r' ds a' b') x p q slot s d d' =
        then_same _ _ _ _ (rules_same x p q r r' cs ds a b a' b' (n.symbol x) slot refl s d d')
        (λ e. (let r_is : r ≡ r' = flat_laws.same_rule r _ r' _ e in
        let h = has_parts f g n flat_edge edge laws x p q r cs a b d in
        let h' = has_parts f g n flat_edge edge laws x p q r' ds a' b' d' in
        let len : length (n.rhs r) ≡ length (n.rhs r') = ap (λ z. length (n.rhs z)) r_is in
        ap (λ hi. children_cmp flat hi cs ds) (keeps.null_high r)
        ∙ prefix_same cs ds r p q d.in_range (subst (λ z. IsInner (n.symbol z)) (sym h.1) (inner_from (n.symbol x) slot s)) (omega (arith, h.0)) (h.0 ∙ len ∙ sym h'.0) d.prefix (rule_prefix r p q ds r' r_is d'.prefix)))
    tree_same (Leaf y a b) (Leaf y' a' b') x p q slot s d d' = refl
    tree_same (Leaf y a b) (Nulled y' a') x p q slot s d d' = refl
    tree_same (Leaf y a b) (Node r' ds a' b') x p q slot s d d' = refl
    tree_same (Nulled y a) (Leaf y' a' b') x p q slot s d d' = refl
    tree_same (Nulled y a) (Nulled y' a') x p q slot s d d' = refl
    tree_same (Nulled y a) (Node r' ds a' b') x p q slot s d d' = refl
    tree_same (Node r cs a b) (Leaf y' a' b') x p q slot s d d' = refl
    tree_same (Node r cs a b) (Nulled y' a') x p q slot s d d' = refl

    pub prefix_same : (cs ds : Children) (r p q : ℕ) → r < length f.rules → IsInner (n.symbol (n.lhs r)) → child_count cs ≤ length (n.rhs r) → child_count cs ≡ child_count ds → DerivesPrefix f flat_edge (rule_at f r) p q cs → DerivesPrefix f flat_edge (rule_at f r) p q ds →
        children_cmp flat (own_high r) cs ds ≡ children_cmp written (own_high r) (children_of n cs) (children_of n ds)
    prefix_same NoChild NoChild r p q lt inner c e d d' = refl
    prefix_same NoChild (Child ds u) r p q lt inner c e d d' = absurd (omega arith)
    prefix_same (Child cs t) NoChild r p q lt inner c e d d' = absurd (omega arith)
    prefix_same (Child cs t) (Child ds u) r p q lt inner c e (m, fr, l) (m', fr', l') =
        let k = child_count cs in
        let same : child_count ds ≡ k = omega arith in
        let t' = flat_last r k m q t lt l in
        let u' = flat_last r k m' q u lt (subst (λ j. Derives f flat_edge (child_slot (rule_at f r) j) m' q u) same l') in
        prefix_cases cs ds t u r p q m m' fr fr' t' u' same (laws.part r k lt (omega arith) inner)
        (λ z. prefix_same cs ds r p m lt inner (omega arith) (sym same) fr (subst (λ w. DerivesPrefix f flat_edge (rule_at f r) p w ds) (sym z) fr'))
        (λ z slot s. tree_same t u (slice_index (n.rhs r) k) m q slot s t' (subst (λ w. Derives f flat_edge (slot_of (slice_index (n.rhs r) k)) w q u) (sym z) u'))
        (λ z e. list_same t u (slice_index (n.rhs r) k) (n.source r) m q e t' (subst (λ w. Derives f flat_edge (slot_of (slice_index (n.rhs r) k)) w q u) (sym z) u'))

    pub list_same : (t u : Tree) (x i p q : ℕ) → n.symbol x ≡ FlatList i → Derives f flat_edge (slot_of x) p q t → Derives f flat_edge (slot_of x) p q u → tree_cmp flat t u ≡ children_cmp written (written.null_high i) (inside n t) (inside n u)
    list_same (Node r cs a b) (Node r' ds a' b') x i p q e d d' =
        list_nodes x i p q r r' cs ds a b a' b' e d d' (λ r_is.
        (let h = has_parts f g n flat_edge edge laws x p q r cs a b d in
        let h' = has_parts f g n flat_edge edge laws x p q r' ds a' b' d' in
        let len : length (n.rhs r) ≡ length (n.rhs r') = ap (λ z. length (n.rhs z)) r_is in
        prefix_same cs ds r p q d.in_range (subst (λ z. IsInner (n.symbol z)) (sym h.1) (inner_list (n.symbol x) i e)) (omega (arith, h.0)) (h.0 ∙ len ∙ sym h'.0) d.prefix (rule_prefix r p q ds r' r_is d'.prefix)))
    list_same (Leaf y a b) u x i p q e d d' = absurd (true≢false (sym (list_node f g n flat_edge edge laws x p q i (Leaf y a b) d e)))
    list_same (Nulled y a) u x i p q e d d' = absurd (true≢false (sym (list_node f g n flat_edge edge laws x p q i (Nulled y a) d e)))
    list_same (Node r cs a b) (Leaf y' a' b') x i p q e d d' = absurd (true≢false (sym (list_node f g n flat_edge edge laws x p q i (Leaf y' a' b') d' e)))
    list_same (Node r cs a b) (Nulled y' a') x i p q e d d' = absurd (true≢false (sym (list_node f g n flat_edge edge laws x p q i (Nulled y' a') d' e)))
