-- The nodes of a reading of so many tokens and one more by flat recursion, and the hidden items that count for its steps.
use Rattle.std.proofs.Common.{arith, ◌≡◌, ◌⊎◌, inl, inr, ℕ, zero, suc, ◌+◌, ◌<◌, ◌≤◌, List, [], ◌∷◌, length, refl, sym, ap, subst, lit<}
use Rattle.grammar_model.specs.Derives.{Edges}
use Rattle.grammar_model.specs.Trees.{Tree, Children, Leaf, Nulled, Node, NoChild, Child}
use Rattle.recognizer_model.specs.declared.NodeKey.{NodeKey}
use Rattle.recognizer_model.specs.Flat.{lhs_of}
use Rattle.recognizer_model.specs.FlatDerives.{Derives, Spans, Token, Null, Rule, More, Nothing}
use Rattle.recognizer_model.specs.Acceptable.{OnlyTerminals}
use Rattle.recognizer_model.specs.Leo.{IsHidden}
use Rattle.recognizer_model.specs.Chosen.{Allowed, AreAllowed, AreAllowedIn, LeavesSome}
use Rattle.recognizer_model.specs.Nodes.{Has, All, Inside, IsUsed, IsMet, Whole, Before, Last, Placed, IsExpanded}
use Rattle.recognizer_model.specs.Below.{node_of}
use Rattle.recognizer_model.specs.Counts.{IsCountOf}
use Rattle.recognizer_model.proofs.Leo.{expanded_inside}
use Rattle.recognizer_model.proofs.Nodes.{used_are_met}
use Rattle.recognizer_model.proofs.Counting.{list_is}
use Rattle.finite_sets.proofs.Members.{Among, Once}
use Rattle.outcome_laws.proofs.RightFlat.{flat}
use Rattle.outcome_laws.proofs.RightShape.{none_nullable, is_top, no_rules}
use Rattle.outcome_laws.proofs.RightSets.{row_edges, Waits, waits, Left, left, edge_is, edge, goes, at, hidden_at, is_hidden}

-- ---- what is met on the way back

nothing_over : {E : Edges} {r d p q : ℕ} {cs : Children} → Spans flat E r d p q cs → d ≡ 0 → q ≡ p
nothing_over Nothing e = refl
nothing_over (More s a t) e = absurd (omega (arith, e))

-- a place after another is so many after it
pub after_it : (o n : ℕ) → o < n → (m : ℕ) × (o + suc m ≡ n)
after_it o zero lt = absurd (omega (arith, lt))
after_it zero (suc n) lt = (n, omega arith)
after_it (suc o) (suc n) lt = let (m, e) = after_it o n (omega (arith, lt)) in (m, omega (arith, e))

module _ (n : ℕ) (allowed : Allowed) (all : (r p q : ℕ) → allowed r p q) where
  token_over : {x p q : ℕ} {t : Tree} → Derives flat (row_edges (suc n)) x p q t → x ≡ 0 → q ≡ suc p
  token_over (Token {x = x} {p = p} {q = q} e) same = (edge_is (suc n) x p q e).1
  token_over (Null {x = x} null) same = absurd (none_nullable 1 0 x null)
  token_over (Rule {r = r} rule l lt s) same = let of = left r rule in absurd (other r (lhs_of flat r) of (omega (arith, l, same)))
    where
      other : (r x : ℕ) → Left r x → x ≡ 0 → ⊥
      other r x l e = grind arith

  first_waits : (r d x : ℕ) → Waits r d x → r ≡ 0 → d ≡ 0 → x ≡ 0
  first_waits r d x w a b = grind arith

  one_over : {r d p q : ℕ} {cs : Children} → Spans flat (row_edges (suc n)) r d p q cs → d ≡ 1 → r ≡ 0 → q ≡ suc p
  one_over Nothing e a = absurd (omega (arith, e))
  one_over (More {r = r} {d = d} {x = x} s part t) e a =
      let first : d ≡ 0 = omega (arith, e) in
      let here = nothing_over s first in
      let next = token_over t (first_waits r d x (waits r d x part) a first) in
      omega (arith, here, next)

  -- a node is not begun, or the token of a list, or it ends at the end
  abbrev Over : (rule dot from to : ℕ) → Type 0
  Over r d p q = (d ≡ 0) ⊎ ((r ≡ 0) × (d ≡ 1) × (q ≡ suc p)) ⊎ (q ≡ suc n)

  second_waits : (r d x : ℕ) → Waits r d x → 0 < d → (r ≡ 0) × (d ≡ 1)
  second_waits r d x w some = (grind arith, grind arith)

  at_end : (r d p q x s : ℕ) → Over r (suc d) p q → Waits r d x → Left s x → q ≡ suc n
  at_end r d p q x s o w l = grind arith

  zero_or_more : (d : ℕ) → (d ≡ 0) ⊎ (0 < d)
  zero_or_more zero = inl refl
  zero_or_more (suc d) = inr (omega arith)

  met_over : {r d p q : ℕ} → IsMet flat (row_edges (suc n)) allowed 2 (suc n) r d p q → Over r d p q
  met_over (Whole some s) = inr (inr refl)
  met_over (Before {r = r} {d = d} {p = p} {m = m} {x = x} met s e t) = by (zero_or_more d)
    where
      by : (d ≡ 0) ⊎ (0 < d) → Over r d p m
      by (inl none) = inl none
      by (inr some) = let (a, b) = second_waits r d x (waits r d x e) some in inr (inl (a, b, one_over s b a))
  met_over (Last {r = r} {r' = s} {d = d} {p = p} {q = q} met spans e rule lt spans' is) =
      inr (inr (at_end r d p q (lhs_of flat s) s (met_over met) (waits r d (lhs_of flat s) e) (left s rule)))

  mutual
    any_tree : (t : Tree) → AreAllowed allowed t
    any_tree (Leaf x p q) = tt
    any_tree (Nulled x p) = tt
    any_tree (Node r cs p q) = (all r p q, any_prefix cs)

    any_prefix : (cs : Children) → AreAllowedIn allowed cs
    any_prefix NoChild = tt
    any_prefix (Child prefix last) = (any_prefix prefix, any_tree last)

  leaves : LeavesSome flat (row_edges (suc n)) allowed
  leaves x p q t d = (t, d, any_tree t)

  only : OnlyTerminals flat (row_edges (suc n))
  only x p q e = (e.0, e.1)

  abbrev Used : NodeKey → Type 0
  Used = IsUsed flat (row_edges (suc n)) allowed 2 (suc n)

  used_over : (k : NodeKey) → IsUsed flat (row_edges (suc n)) allowed 2 (suc n) k → (k.end ≡ suc k.origin) ⊎ (k.end ≡ suc n)
  used_over k u =
      let (some, met) = (used_are_met flat (row_edges (suc n)) allowed 2 (is_top 1 0) only (no_rules 1 0) leaves (suc n) k).0 u in
      by some (met_over met)
    where
      by : 0 < k.dot → Over k.rule k.dot k.origin k.end → (k.end ≡ suc k.origin) ⊎ (k.end ≡ suc n)
      by some (inl none) = absurd (omega (arith, some, none))
      by some (inr (inl (a, b, e))) = inl e
      by some (inr (inr e)) = inr e

  -- ---- the derivation has the nodes of lists after their rests

  -- that of so many tokens and one more
  abbrev tree : (more from to : ℕ) → Tree
  tree zero p q = Node 1 (Child NoChild (Leaf 0 p (suc p))) p q
  tree (suc n) p q = Node 0 (Child (Child NoChild (Leaf 0 p (suc p))) (tree n (suc p) q)) p q

  derives : (more p q : ℕ) → suc p + more ≡ q → q ≤ suc n → Derives flat (row_edges (suc n)) 1 p q (tree more p q)
  derives zero p q e le =
      let next : suc p ≡ q = omega (arith, e) in
      Rule {r = 1} (lit< tt) refl (omega (arith, e))
      (subst (λ z. Spans flat (row_edges (suc n)) 1 1 p z (Child NoChild (Leaf 0 p (suc p)))) next (More Nothing refl (Token (edge (suc n) p (omega (arith, e, le))))))
  derives (suc more) p q e le =
      Rule {r = 0} (lit< tt) refl (omega (arith, e)) (More (More Nothing refl (Token (edge (suc n) p (omega (arith, e, le))))) refl (derives more (suc p) q (omega (arith, e)) le))

  abbrev whole : Tree
  whole = Node 2 (Child NoChild (tree n 0 (suc n))) 0 (suc n)

  whole_derives : Derives flat (row_edges (suc n)) 2 0 (suc n) whole
  whole_derives = Rule {r = 2} (lit< tt) refl (omega arith) (More Nothing refl (derives n 0 (suc n) (omega arith) (omega arith)))

  abbrev pair : (more from : ℕ) → Children
  pair m k = Child (Child NoChild (Leaf 0 k (suc k))) (tree m (suc k) (suc n))

  has : (k m : ℕ) → k + suc m ≡ n → Has (Node 2 (Child NoChild (tree n 0 (suc n))) 0 (suc n)) 0 k (suc n) (pair m k)
  has zero m e = subst (λ z. Has (Node 2 (Child NoChild (tree z 0 (suc n))) 0 (suc n)) 0 0 (suc n) (pair m 0)) (let same : suc m ≡ n = omega (arith, e) in same) (Inside All)
  has (suc k) m e = Inside (has k (suc m) (omega (arith, e)))

  used : (k : ℕ) → k < n → IsUsed flat (row_edges (suc n)) allowed 2 (suc n) (record { rule = 0; dot = 2; origin = k; end = suc n })
  used k lt =
      let (m, e) = after_it k n lt in
      record { tree = whole; derives = whole_derives; chosen = any_tree whole; children = pair m k; has = has k m e; dot_is = refl; some = lit< tt }

  -- ---- the hidden items

  abbrev hidden_of : ℕ → Placed
  hidden_of k = record { place = suc n; item = record { rule = 0; dot = 2; origin = k } }

  abbrev hidden_items : ℕ → List Placed
  hidden_items zero = []
  hidden_items (suc k) = hidden_of k ∷ hidden_items k

  hidden_length : (k : ℕ) → length (hidden_items k) ≡ k
  hidden_length zero = refl
  hidden_length (suc k) = ap suc (hidden_length k)

  among_hidden : (k o : ℕ) → o < k → Among (hidden_of o) (hidden_items k)
  among_hidden zero o lt = absurd (omega (arith, lt))
  among_hidden (suc k) o lt = by (last k o lt) (among_hidden k o)
    where
      last : (k o : ℕ) → o < suc k → (k ≡ o) ⊎ (o < k)
      last k o lt = grind arith

      by : (k ≡ o) ⊎ (o < k) → (o < k → Among (hidden_of o) (hidden_items k)) → Among (hidden_of o) (hidden_items (suc k))
      by (inl e) more = inl (ap hidden_of e)
      by (inr less) more = inr (more less)

  of_hidden : (k : ℕ) (p : Placed) → Among p (hidden_items k) → (o : ℕ) × (o < k) × (hidden_of o ≡ p)
  of_hidden zero p m = absurd m
  of_hidden (suc k) p (inl e) = (k, omega arith, e)
  of_hidden (suc k) p (inr m) = let (o, lt, e) = of_hidden k p m in (o, omega (arith, lt), e)

  once_hidden : (k : ℕ) → Once (hidden_items k)
  once_hidden zero = tt
  once_hidden (suc k) = ((λ m. let (o, lt, e) = of_hidden k (hidden_of k) m in let same = ap (λ (p : Placed). p.item.origin) e in absurd (omega (arith, lt, same))), once_hidden k)

  abbrev Hidden : Placed → Type 0
  Hidden p = IsHidden flat (row_edges (suc n)) 2 p.place p.item

  hidden_is : (o : ℕ) → o < n → Hidden (hidden_of o)
  hidden_is o lt =
      let (m, e) = after_it o n lt in
      subst (λ z. IsHidden flat (row_edges (suc n)) 2 z (record { rule = 0; dot = 2; origin = o })) (let same : suc (suc o) + m ≡ suc n = omega (arith, e) in same)
      (is_hidden (suc n) m o (omega (arith, e)))

  -- a hidden item that begins no earlier than a used node with the same end stands at the end
  hidden_in : (p : Placed) (k : NodeKey) → Hidden p → Used k → k.end ≡ p.place → k.origin ≤ p.item.origin → Among p (hidden_items n)
  hidden_in p k h u same le =
      let (a, b, lt) = hidden_at (suc n) p.place p.item.rule p.item.dot p.item.origin (at (suc n) (expanded_inside flat (row_edges (suc n)) 2 (is_top 1 0) (goes (suc n)) h.0)) h.1 in
      let place = end_is k.origin k.end p.place p.item.origin (used_over k u) same le lt in
      subst (λ z. Among z (hidden_items n)) (λ i. record { place = sym place i; item = record { rule = sym a i; dot = sym b i; origin = p.item.origin } }) (among_hidden n p.item.origin (omega (arith, lt, place)))
    where
      end_is : (o e place origin : ℕ) → (e ≡ suc o) ⊎ (e ≡ suc n) → e ≡ place → o ≤ origin → suc origin < place → place ≡ suc n
      end_is o e place origin over same le lt = grind arith

  pub expanded_count : IsCountOf (IsExpanded flat (row_edges (suc n)) allowed 2 (suc n)) n
  expanded_count = (hidden_items n, list_is (IsExpanded flat (row_edges (suc n)) allowed 2 (suc n)) (hidden_items n) (once_hidden n) from to, hidden_length n)
    where
      from : (p : Placed) → Among p (hidden_items n) → IsExpanded flat (row_edges (suc n)) allowed 2 (suc n) p
      from p m =
          let (o, lt, e) = of_hidden n p m in
          subst (IsExpanded flat (row_edges (suc n)) allowed 2 (suc n)) e (hidden_is o lt, (record { rule = 0; dot = 2; origin = o; end = suc n }, used o lt, refl, omega arith))

      to : (p : Placed) → IsExpanded flat (row_edges (suc n)) allowed 2 (suc n) p → Among p (hidden_items n)
      to p (h, (k, u, same, le)) = hidden_in p k h u same le

  abbrev HasNode : Placed → Type 0
  HasNode p = IsHidden flat (row_edges (suc n)) 2 p.place p.item × IsUsed flat (row_edges (suc n)) allowed 2 (suc n) (node_of p.item p.place)

  pub node_count : IsCountOf HasNode n
  node_count = (hidden_items n, list_is HasNode (hidden_items n) (once_hidden n) from to, hidden_length n)
    where
      from : (p : Placed) → Among p (hidden_items n) → HasNode p
      from p m = let (o, lt, e) = of_hidden n p m in subst HasNode e (hidden_is o lt, used o lt)

      to : (p : Placed) → HasNode p → Among p (hidden_items n)
      to p (h, u) = hidden_in p (node_of p.item p.place) h u refl (omega arith)
