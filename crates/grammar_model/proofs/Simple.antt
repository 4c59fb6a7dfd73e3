-- The plain lister of simple grammars lists all derivations.
use Rattle.std.proofs.Common.{◌≡◌, ◌≢◌, ℕ, zero, suc, ◌<◌, ◌≤◌, ◌+◌, Bool, true, false, cond, List, [], ◌∷◌, ◌++◌, length, ◌⊎◌, inl, inr, refl, sym, ap, ◌∙◌, subst, ⊎_elim, arith}
use Rattle.std.specs.Prelude.{◌↔◌, ◌==◌, nat_lt, nat_le, slice_index, slice_index_or, pos}
use Rattle.std.specs.List.{list_any}
use Rattle.std.specs.List.Sorted.{IsStrictlySortedBy}
use Rattle.std.specs.declared.cmp.Ordering.{Ordering}
use Rattle.std.specs.declared.cmp.Ordering.TheVariants.{Less, Equal, Greater}
use Rattle.std.specs.Ordering.{ordering_then, nat_cmp, int_cmp, bool_cmp}
use Rattle.std.specs.Cmp.{ranks}
use Rattle.std.proofs.lemmas.Bool.{eqb-true, eqb-false, eq-eqb, ne_eqb, leb-true, le-leb, ltb-true, ltb-false, not-true, not-false, and_parts, and_from, or_cases, or_parts, cond_both, true≢false, cases_eq}
use Rattle.std.proofs.lemmas.List.Kept.{IsStrictlySortedBy-filter}
use Rattle.finite_sets.proofs.Clauses.{nat_cmp-less}
use Rattle.finite_sets.proofs.Members.{among_filter, among_filter_from, among_from, contains_from, among_left, among_right, among_either, Among}
use Rattle.grammar_model.specs.Grammar.{Grammar, Slot, WrittenRule, Plain, Sequence, lhs_of, rule_at, no_rule, Fits, IsChildCount, IsTerminal, child_slot, slot_count, EachChildSlot, has_trailing}
use Rattle.grammar_model.specs.Trees.{Tree, Children, Leaf, Nulled, Node, NoChild, Child, child_count}
use Rattle.grammar_model.specs.Analysis.{IsNullableIn, IsStar}
use Rattle.grammar_model.specs.Derives.{Edges, Derives, DerivesPrefix}
use Rattle.grammar_model.specs.Order.{Ranking, NoRanks, RuleRanks, HighRanks, RuleOrder, rank_by, rank_order}
use Rattle.grammar_model.specs.All.{IsAll}
use Rattle.grammar_model.specs.Simple.{IsSimple, IsSimpleRule, Tested, is_terminal, fits, numbers, places, part_count, Below, simple_prefixes, simple_leaves, fitting, simple_nodes, simple_trees}
use Rattle.grammar_model.proofs.Sorting.{ranks_order}
use Rattle.grammar_model.proofs.Total.{all_unique}
use Rattle.grammar_model.proofs.Lists.{sorted_append, each_from}
use Rattle.grammar_model.proofs.Compose.{GoForward, at_cmp, place_of, IsAllPrefix, all_with_last, all_nodes}

-- ---- numbers, places, filters

pub among_numbers_from : (n i : ℕ) → Among i (numbers n) → i < n
among_numbers_from zero i m = absurd m
among_numbers_from (suc n) i m = below (λ k. among_numbers_from n i k) (among_either i (numbers n) (n ∷ []) m)
  where
    below : (Among i (numbers n) → i < n) → Among i (numbers n) ⊎ ((n ≡ i) ⊎ ⊥) → i < suc n
    below ih (inl k) = let h = ih k in omega arith
    below ih (inr (inl e)) = omega arith
    below ih (inr (inr b)) = absurd b

pub among_numbers : (n i : ℕ) → i < n → Among i (numbers n)
among_numbers zero i h = absurd (omega arith)
among_numbers (suc n) i h = pick (λ k. among_numbers n i k) (cases_eq i n)
  where
    pick : (i < n → Among i (numbers n)) → (i ≡ n) ⊎ (i ≡ n → ⊥) → Among i (numbers n ++ n ∷ [])
    pick ih (inl e) = among_right i (numbers n) (n ∷ []) (inl (sym e))
    pick ih (inr ne) = among_left i (numbers n) (n ∷ []) (ih (omega arith))

numbers_sorted : (n : ℕ) → IsStrictlySortedBy nat_cmp (numbers n)
unfolding IsStrictlySortedBy
numbers_sorted zero = tt
numbers_sorted (suc n) = sorted_append nat_cmp (numbers n) (n ∷ []) (numbers_sorted n) (tt, tt) less
  where
    less : (x y : ℕ) → Among x (numbers n) → Among y (n ∷ []) → nat_cmp x y ≡ Less
    less x y m (inl e) = let h = among_numbers_from n x m in nat_cmp-less x y (omega arith)
    less x y m (inr b) = absurd b

pub among_places_from : (p q r : ℕ) → Among r (places p q) → (p ≤ r) × (r < q)
among_places_from p zero r m = absurd m
among_places_from p (suc q) r m = split (λ k. among_places_from p q r k) (nat_le p q) refl m
  where
    split : (Among r (places p q) → (p ≤ r) × (r < q)) → (b : Bool) → nat_le p q ≡ b → Among r (cond b (q ∷ places p q) []) → (p ≤ r) × (r < suc q)
    split ih true e (inl h) = let l = leb-true p q e in (omega arith, omega arith)
    split ih true e (inr k) = let h = ih k in (omega arith, omega arith)
    split ih false e k = absurd k

pub among_places : (p q r : ℕ) → p ≤ r → r < q → Among r (places p q)
among_places p zero r a b = absurd (omega arith)
among_places p (suc q) r a b = subst (λ t. Among r (cond t (q ∷ places p q) [])) (sym (le-leb p q (omega arith))) (pick (λ h. among_places p q r a h) (cases_eq r q))
  where
    pick : (r < q → Among r (places p q)) → (r ≡ q) ⊎ (r ≡ q → ⊥) → Among r (q ∷ places p q)
    pick ih (inl e) = inl (sym e)
    pick ih (inr ne) = inr (ih (omega arith))

at_cmp-less : (high : Bool) (q r r' : ℕ) → r' < r → r < q → at_cmp high q r r' ≡ Less
at_cmp-less high q r r' h k =
    let a : (r == q) ≡ false = ne_eqb r q (λ e. omega arith) in
    let b : (r' == q) ≡ false = ne_eqb r' q (λ e. omega arith) in
    (λ i. ordering_then (nat_cmp (place_of high (a i)) (place_of high (b i))) (nat_cmp r' r)) ∙ nat_cmp-less r' r h

pub places_sorted : (high : Bool) (p q top : ℕ) → q ≤ top → IsStrictlySortedBy (at_cmp high top) (places p q)
unfolding IsStrictlySortedBy
places_sorted high p zero top h = tt
places_sorted high p (suc q) top h =
    cond_both (nat_le p q) (q ∷ places p q) [] (IsStrictlySortedBy (at_cmp high top))
    (λ t. (each_from (λ r. at_cmp high top q r ≡ Less) (places p q) (λ r m. let b = among_places_from p q r m in at_cmp-less high top q r (omega arith) (omega arith)), places_sorted high p q top (omega arith)))
    (λ f. tt)

-- ---- terminals

none_from : (s : ℕ) (rules : List WrittenRule) → list_any (λ rule. lhs_of rule == s) rules ≡ false → (i : ℕ) → i < length rules → lhs_of (slice_index_or rules i no_rule) ≢ s
none_from s [] e i h = absurd (omega arith)
none_from s (rule ∷ rules) e zero h = eqb-false (lhs_of rule) s (or_parts _ _ e).0
none_from s (rule ∷ rules) e (suc i) h = none_from s rules (or_parts _ _ e).1 i (omega arith)

some_from : (s : ℕ) (rules : List WrittenRule) → list_any (λ rule. lhs_of rule == s) rules ≡ true → (i : ℕ) × (i < length rules) × (lhs_of (slice_index_or rules i no_rule) ≡ s)
some_from s [] e = absurd (true≢false (sym e))
some_from s (rule ∷ rules) e = pick (λ t. some_from s rules t) (or_cases _ _ e)
  where
    pick : (list_any (λ r. lhs_of r == s) rules ≡ true → (i : ℕ) × (i < length rules) × (lhs_of (slice_index_or rules i no_rule) ≡ s)) → ((lhs_of rule == s) ≡ true) ⊎ (list_any (λ rule. lhs_of rule == s) rules ≡ true) → (i : ℕ) × (i < length (rule ∷ rules)) × (lhs_of (slice_index_or (rule ∷ rules) i no_rule) ≡ s)
    pick ih (inl t) = (0, omega arith, eqb-true (lhs_of rule) s t)
    pick ih (inr t) = let r = ih t in (suc r.0, omega arith, r.2)

pub terminal_from : (g : Grammar) (s : ℕ) → is_terminal g s ≡ true → IsTerminal g s
terminal_from g s e = none_from s g.rules (not-true _ e)

pub no_terminal_from : (g : Grammar) (s : ℕ) → is_terminal g s ≡ false → IsTerminal g s → ⊥
no_terminal_from g s e t = let r = some_from s g.rules (not-false _ e) in t r.0 r.1 r.2

pub is_terminal_from : (g : Grammar) (s : ℕ) → IsTerminal g s → is_terminal g s ≡ true
is_terminal_from g s t = go (is_terminal g s) refl
  where
    go : (b : Bool) → is_terminal g s ≡ b → b ≡ true
    go true e = refl
    go false e = absurd (no_terminal_from g s e t)

pub fits_from : (rule : WrittenRule) (slot : Slot) → fits rule slot ≡ true → Fits rule slot
fits_from rule slot e = let b = and_parts _ _ e in (eqb-true _ _ b.0, leb-true _ _ b.1)

pub from_fits : (rule : WrittenRule) (slot : Slot) → Fits rule slot → fits rule slot ≡ true
from_fits rule slot f = and_from _ _ (eq-eqb _ _ f.0) (le-leb _ _ f.1)

-- ---- simple grammars

-- what a simple rule's parts are
pub simple_parts : (g : Grammar) (rule : WrittenRule) → IsSimpleRule g rule → 0 < part_count rule
simple_parts g (Plain r) s = ⊎_elim (λ h. let e = h.0 in omega arith) (λ h. omega arith) s.2
simple_parts g (Sequence r) h = absurd h

-- ranks play no part
unranked : (g : Grammar) (ranking : Ranking) (rule : WrittenRule) → IsSimpleRule g rule → rank_by ranking rule ≡ pos 0
unranked g NoRanks rule s = refl
unranked g RuleRanks (Plain r) s = s.1
unranked g RuleRanks (Sequence r) s = absurd s
unranked g HighRanks (Plain r) s = s.1
unranked g HighRanks (Sequence r) s = absurd s

count_is : (g : Grammar) (rule : WrittenRule) (n : ℕ) → IsSimpleRule g rule → IsChildCount rule n ↔ (n ≡ part_count rule)
count_is g (Plain r) n s = (λ h. h, λ h. h)
count_is g (Sequence r) n s = absurd s

not_star : (g : Grammar) (rule : WrittenRule) → IsSimpleRule g rule → IsStar rule → ⊥
not_star g (Plain r) s h = h
not_star g (Sequence r) s h = s

slots_are_parts : (g : Grammar) (rule : WrittenRule) → IsSimpleRule g rule → slot_count rule ≡ part_count rule
slots_are_parts g (Plain r) s = refl
slots_are_parts g (Sequence r) s = absurd s

module _ (g : Grammar) (test : ℕ → ℕ → ℕ → Bool) (ranking : Ranking) (simple : IsSimple g) (forward : GoForward (Tested test)) where
  abbrev edge : Edges
  edge = Tested test

  abbrev order : RuleOrder
  order = rank_order g ranking

  none_nullable : (k : ℕ) (slot : Slot) → IsNullableIn k g slot → ⊥
  none_nullable zero slot n = n
  none_nullable (suc k) slot (i, lt, f, way) = go (λ s. none_nullable k s) way
    where
      go : ((s : Slot) → IsNullableIn k g s → ⊥) → IsStar (rule_at g i) ⊎ EachChildSlot (IsNullableIn k g) (rule_at g i) → ⊥
      go ih (inl star) = not_star g (rule_at g i) (simple i lt) star
      go ih (inr each) =
          let pos = simple_parts g (rule_at g i) (simple i lt) in
          let e = slots_are_parts g (rule_at g i) (simple i lt) in
          ih (child_slot (rule_at g i) 0) (each 0 (omega arith))

  spans : (slot : Slot) (p q : ℕ) (t : Tree) → Derives g edge slot p q t → p < q
  spans slot p q (Leaf s a b) d = let h = forward s a b d.held in let e = d.from_is in let e' = d.to_is in omega arith
  spans slot p q (Nulled s a) d = absurd (none_nullable d.nullable.0 slot d.nullable.1)
  spans slot p q (Node i cs a b) d = d.spans

  prefix_spans : (rule : WrittenRule) (p q : ℕ) (cs : Children) → DerivesPrefix g edge rule p q cs → p + child_count cs ≤ q
  prefix_spans rule p q NoChild d = omega arith
  prefix_spans rule p q (Child cs t) (r, f, d) =
      let a = prefix_spans rule p r cs f in
      let b = spans (child_slot rule (child_count cs)) r q t d in
      omega arith

  abbrev Exactly : ℕ → ℕ → Type 0
  Exactly n m = m ≡ n

  no_prefix : (rule : WrittenRule) (high : Bool) (p q : ℕ) → IsAllPrefix g edge forward order (ranks_order g ranking) rule high (Exactly 0) p q (simple_prefixes (λ s a b. []) rule 0 p q)
  unfolding IsStrictlySortedBy
  no_prefix rule high p q = cond_both (p == q) (NoChild ∷ []) [] (IsAllPrefix g edge forward order (ranks_order g ranking) rule high (Exactly 0) p q) here nowhere
    where
      only : (cs : Children) → DerivesPrefix g edge rule p q cs × Exactly 0 (child_count cs) → NoChild ≡ cs
      only NoChild d = refl
      only (Child cs t) d = let e = d.1 in absurd (omega arith)

      end : (cs : Children) → DerivesPrefix g edge rule p q cs × Exactly 0 (child_count cs) → p ≡ q
      end NoChild d = d.0
      end (Child cs t) d = let e = d.1 in absurd (omega arith)

      here : (p == q) ≡ true → IsAllPrefix g edge forward order (ranks_order g ranking) rule high (Exactly 0) p q (NoChild ∷ [])
      here e = record {
        sorted = (tt, tt);
        each = λ cs. (λ m. elim m [ inl h ↦ subst (λ x. DerivesPrefix g edge rule p q x × Exactly 0 (child_count x)) h (eqb-true p q e, refl) | inr b ↦ absurd b ], λ d. inl (only cs d));
      }

      nowhere : (p == q) ≡ false → IsAllPrefix g edge forward order (ranks_order g ranking) rule high (Exactly 0) p q []
      nowhere e = record { sorted = tt; each = λ cs. (λ m. absurd m, λ d. eqb-false p q e (end cs d)) }

  -- the first n children, where what is listed below is all at the parts that are short enough
  prefixes_all : (below : Below) (rule : WrittenRule) (high : Bool) (p n q : ℕ) →
      ((k r s : ℕ) → k < n → p + k ≤ r → r < s → s + n ≤ q + suc k → IsAll g edge order (child_slot rule k) r s (below (child_slot rule k) r s)) →
      IsAllPrefix g edge forward order (ranks_order g ranking) rule high (Exactly n) p q (simple_prefixes below rule n p q)
  prefixes_all below rule high p zero q h = no_prefix rule high p q
  prefixes_all below rule high p (suc n) q h =
      exactly (all_with_last g edge forward order (ranks_order g ranking) rule high (Exactly n) (child_slot rule n) (λ m e. ap (child_slot rule) e) p q (places (p + n) q)
      (λ r. simple_prefixes below rule n p r) (λ r. below (child_slot rule n) r q) (places_sorted high (p + n) q q (omega arith))
      (λ r m. let b = among_places_from (p + n) q r m in prefixes_all below rule high p n r (λ k r' s lt a c d. h k r' s (omega arith) a c (omega arith)))
      (λ r m. let b = among_places_from (p + n) q r m in h n r q (omega arith) b.0 b.1 (omega arith))
      (λ r cs t f e d. let a = prefix_spans rule p r cs f in let c = spans (child_slot rule n) r q t d in among_places (p + n) q r (omega arith) c))
    where
      exactly : {prefixes : List Children} → IsAllPrefix g edge forward order (ranks_order g ranking) rule high (λ m. (k : ℕ) × Exactly n k × (m ≡ suc k)) p q prefixes → IsAllPrefix g edge forward order (ranks_order g ranking) rule high (Exactly (suc n)) p q prefixes
      exactly {prefixes} a = record {
        sorted = a.sorted;
        each = λ cs. (λ m. (let r = (a.each cs).0 m in (r.0, r.1.2 ∙ ap suc r.1.1)), λ d. (a.each cs).1 (d.0, (n, refl, d.1)));
      }

  none_listed : (slot : Slot) (p q : ℕ) → q ≤ p → IsAll g edge order slot p q []
  unfolding IsStrictlySortedBy
  none_listed slot p q h = record {
    sorted = tt;
    each = λ t. (λ c. absurd (among_from [] t c), λ d. (let s = spans slot p q t d in absurd (omega arith)));
  }

  leaves_all : (slot : Slot) (p q : ℕ) → IsTerminal g slot.symbol → IsAll g edge order slot p q (simple_leaves test slot p q)
  unfolding IsStrictlySortedBy
  leaves_all slot p q terminal = cond_both (test slot.symbol p q) (Leaf slot.symbol p q ∷ []) [] (IsAll g edge order slot p q) held free
    where
      only : (t : Tree) → Derives g edge slot p q t → (Leaf slot.symbol p q ≡ t) × (test slot.symbol p q ≡ true)
      only (Leaf s a b) d =
          let e : Leaf slot.symbol p q ≡ Leaf s a b = λ i. Leaf (sym d.symbol_is i) (sym d.from_is i) (sym d.to_is i) in
          (e, ap (λ s. test s p q) (sym d.symbol_is) ∙ ap (λ i. test s i q) (sym d.from_is) ∙ ap (λ j. test s a j) (sym d.to_is) ∙ d.held)
      only (Nulled s a) d = absurd (none_nullable d.nullable.0 slot d.nullable.1)
      only (Node i cs a b) d = absurd (terminal i d.in_range d.fits.0)

      held : test slot.symbol p q ≡ true → IsAll g edge order slot p q (Leaf slot.symbol p q ∷ [])
      held e = record {
        sorted = (tt, tt);
        each = λ t. (
          λ c. elim (among_from (Leaf slot.symbol p q ∷ []) t c) [ inl h ↦ subst (Derives g edge slot p q) h (record { symbol_is = refl; from_is = refl; to_is = refl; terminal = terminal; held = e }) | inr b ↦ absurd b ],
          λ d. contains_from (Leaf slot.symbol p q ∷ []) t (inl (only t d).0),
        );
      }

      free : test slot.symbol p q ≡ false → IsAll g edge order slot p q []
      free e = record { sorted = tt; each = λ t. (λ c. absurd (among_from [] t c), λ d. absurd (true≢false (sym (only t d).1 ∙ e))) }

  terminal_all : (d : ℕ) (slot : Slot) (p q : ℕ) → 0 < d → IsTerminal g slot.symbol → IsAll g edge order slot p q (simple_trees g test d slot p q)
  terminal_all zero slot p q h terminal = absurd (omega arith)
  terminal_all (suc d) slot p q h terminal =
      cond_both (nat_lt p q) (cond (is_terminal g slot.symbol) (simple_leaves test slot p q) (simple_nodes g (simple_trees g test d) slot p q)) [] (IsAll g edge order slot p q)
      (λ e. cond_both (is_terminal g slot.symbol) (simple_leaves test slot p q) (simple_nodes g (simple_trees g test d) slot p q) (IsAll g edge order slot p q)
      (λ t. leaves_all slot p q terminal)
      (λ t. absurd (no_terminal_from g slot.symbol t terminal)))
      (λ e. none_listed slot p q (ltb-false p q e))

  -- a simple rule's part is terminal, or the rule has another
  part_is : (rule : WrittenRule) → IsSimpleRule g rule → (k : ℕ) → k < part_count rule → IsTerminal g (child_slot rule k).symbol ⊎ (2 ≤ part_count rule)
  part_is (Plain r) s k lt = one s.2
    where
      one : (length r.rhs ≡ 1) × IsTerminal g (slice_index r.rhs 0) ⊎ (2 ≤ length r.rhs) → IsTerminal g (slice_index r.rhs k) ⊎ (2 ≤ length r.rhs)
      one (inl h) =
          let e = h.0 in
          let z : 0 ≡ k = omega arith in
          inl (subst (λ j. IsTerminal g (slice_index r.rhs j)) z h.1)
      one (inr h) = inr h
  part_is (Sequence r) s k lt = absurd s

  not_trailing : (rule : WrittenRule) (n : ℕ) → IsSimpleRule g rule → has_trailing rule n ≡ false
  not_trailing (Plain r) n s = refl
  not_trailing (Sequence r) n s = absurd s

  then_Equal : (o : Ordering) → ordering_then o Equal ≡ o
  then_Equal Less = refl
  then_Equal Equal = refl
  then_Equal Greater = refl

  by_number : (i j m n : ℕ) → i < length g.rules → j < length g.rules → order.cmp i m j n ≡ nat_cmp i j
  by_number i j m n a b =
      (λ k. ordering_then (int_cmp (unranked g ranking (rule_at g j) (simple j b) k) (unranked g ranking (rule_at g i) (simple i a) k)) (ordering_then (nat_cmp i j) (bool_cmp (not_trailing (rule_at g i) m (simple i a) k) (not_trailing (rule_at g j) n (simple j b) k))))
      ∙ then_Equal (nat_cmp i j)

  in_fitting : (slot : Slot) (i : ℕ) → Among i (fitting g slot) → (i < length g.rules) × Fits (rule_at g i) slot
  in_fitting slot i m =
      let f = among_filter_from (λ i. fits (rule_at g i) slot) i (numbers (length g.rules)) m in
      (among_numbers_from (length g.rules) i f.0, fits_from (rule_at g i) slot f.1)

  -- the nodes of a slot, where what is listed below is all at the parts
  pub nodes_all : (below : Below) (slot : Slot) (p q : ℕ) → p < q → is_terminal g slot.symbol ≡ false →
      ((i : ℕ) → i < length g.rules → (k r s : ℕ) → k < part_count (rule_at g i) → p + k ≤ r → r < s → s + part_count (rule_at g i) ≤ q + suc k → IsAll g edge order (child_slot (rule_at g i) k) r s (below (child_slot (rule_at g i) k) r s)) →
      IsAll g edge order slot p q (simple_nodes g below slot p q)
  nodes_all below slot p q lt inner parts =
      all_nodes g edge forward order (ranks_order g ranking) ℕ nat_cmp (λ i. i) (λ i. Exactly (part_count (rule_at g i))) slot p q lt
      (no_terminal_from g slot.symbol inner) (fitting g slot) (λ i. simple_prefixes below (rule_at g i) (part_count (rule_at g i)) p q)
      (IsStrictlySortedBy-filter nat_cmp (λ i. fits (rule_at g i) slot) (numbers (length g.rules)) (numbers_sorted (length g.rules)))
      (λ i j m n a b e e'. by_number i j m n (in_fitting slot i a).0 (in_fitting slot j b).0)
      (λ i a. (let f = in_fitting slot i a in (f.0, f.1, λ n e. (count_is g (rule_at g i) n (simple i f.0)).1 e)))
      (λ i a. (let f = in_fitting slot i a in prefixes_all below (rule_at g i) (order.null_high i) p (part_count (rule_at g i)) q (parts i f.0)))
      (λ i n a f c. (i, among_filter (λ i. fits (rule_at g i) slot) i (numbers (length g.rules)) (among_numbers (length g.rules) i a) (from_fits (rule_at g i) slot f), refl, (count_is g (rule_at g i) n (simple i a)).0 c))

  pub trees_all : (d : ℕ) (slot : Slot) (p q : ℕ) → q < p + d → IsAll g edge order slot p q (simple_trees g test d slot p q)
  trees_all zero slot p q h = none_listed slot p q (omega arith)
  trees_all (suc d) slot p q h =
      cond_both (nat_lt p q) (cond (is_terminal g slot.symbol) (simple_leaves test slot p q) (simple_nodes g (simple_trees g test d) slot p q)) [] (IsAll g edge order slot p q)
      (λ e. cond_both (is_terminal g slot.symbol) (simple_leaves test slot p q) (simple_nodes g (simple_trees g test d) slot p q) (IsAll g edge order slot p q)
      (λ t. leaves_all slot p q (terminal_from g slot.symbol t))
      (λ t. nodes_all (simple_trees g test d) slot p q (ltb-true p q e) t (parts_all (λ s a b lt. trees_all d s a b lt))))
      (λ e. none_listed slot p q (ltb-false p q e))
    where
      parts_all : ((s : Slot) (a b : ℕ) → b < a + d → IsAll g edge order s a b (simple_trees g test d s a b)) → (i : ℕ) → i < length g.rules →
          (k r s : ℕ) → k < part_count (rule_at g i) → p + k ≤ r → r < s → s + part_count (rule_at g i) ≤ q + suc k → IsAll g edge order (child_slot (rule_at g i) k) r s (simple_trees g test d (child_slot (rule_at g i) k) r s)
      parts_all ih i in_range k r s a b c u =
          ⊎_elim (λ terminal. terminal_all d (child_slot (rule_at g i) k) r s (omega arith) terminal) (λ two. ih (child_slot (rule_at g i) k) r s (omega arith))
          (part_is (rule_at g i) (simple i in_range) k a)

  -- one more round changes nothing where the rounds before span enough
  pub trees_again : (d : ℕ) (slot : Slot) (p q : ℕ) → p < q → q < p + d → is_terminal g slot.symbol ≡ false →
      simple_trees g test d slot p q ≡ simple_nodes g (simple_trees g test d) slot p q
  trees_again d slot p q lt h inner =
      all_unique g edge order (ranks_order g ranking) slot p q _ _ (trees_all d slot p q h)
      (nodes_all (simple_trees g test d) slot p q lt inner (λ i in_range k r s a b c u. trees_all d (child_slot (rule_at g i) k) r s (omega arith)))
