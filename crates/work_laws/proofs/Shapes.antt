-- The derivations of the structural grammar over a line of terminals, by their shapes: a run is an item, or an item and a run; an
-- item is a letter, or a run in brackets. From one place there is one item, and one run up to a place where no item begins.
use Rattle.std.proofs.Common.{◌≡◌, ℕ, zero, suc, ◌<◌, ◌≤◌, List, slice_get, Some, refl, sym, ◌∙◌, ap, subst, arith, lit<, lit≤}
use Rattle.std.proofs.lemmas.Option.{same_Some}
use Rattle.grammar_model.specs.Grammar.{slot_of, IsTerminal}
use Rattle.grammar_model.specs.Trees.{Tree, Leaf, Nulled, Node, NoChild, Child}
use Rattle.grammar_model.specs.Derives.{Edges, Derives}
use Rattle.work_laws.proofs.Building.{work_g1}
use Rattle.work_laws.proofs.Plain.{none_nullable}
use Rattle.work_laws.proofs.Structural.{solid, terminal, no_terminal}

-- the terminal stands at the place
abbrev pub At : List ℕ → ℕ → ℕ → Type 0
At w p s = slice_get w p ≡ Some s

abbrev letter : ℕ → Tree
letter p = Node 2 (Child NoChild (Leaf 2 p (suc p))) p (suc p)

abbrev bracket : (p q : ℕ) → Tree → Tree
bracket p q t = Node 3 (Child (Child (Child NoChild (Leaf 3 p (suc p))) t) (Leaf 4 q (suc q))) p (suc q)

mutual
  pub data IsRun (w : List ℕ) : (from to : ℕ) → Tree → Type 0 where
    Last : {p q : ℕ} {t : Tree} → IsItem w p q t → IsRun w p q (Node 1 (Child NoChild t) p q)
    More : {p m q : ℕ} {t u : Tree} → IsItem w p m t → IsRun w m q u → IsRun w p q (Node 0 (Child (Child NoChild t) u) p q)

  pub data IsItem (w : List ℕ) : (from to : ℕ) → Tree → Type 0 where
    Letter : {p : ℕ} → At w p 2 → IsItem w p (suc p) (letter p)
    Bracket : {p q : ℕ} {t : Tree} → At w p 3 → IsRun w (suc p) q t → At w q 4 → IsItem w p (suc q) (bracket p q t)

-- ---- one item and one run

-- no item begins at the place
pub record Stops (w : List ℕ) (p : ℕ) : Type 0 where
  pub letter : At w p 2 → ⊥
  pub bracket : At w p 3 → ⊥

other_terminal : (w : List ℕ) (p s t : ℕ) → s < t → At w p s → At w p t → ⊥
other_terminal w p s t lt a b = let e = same_Some _ _ (sym a ∙ b) in omega (arith, lt, e)

closing_stops : (w : List ℕ) (p : ℕ) → At w p 4 → Stops w p
closing_stops w p c = record { letter = λ a. other_terminal w p 2 4 (lit< tt) a c; bracket = λ a. other_terminal w p 3 4 (lit< tt) a c }

item_begins : {w : List ℕ} {p q : ℕ} {t : Tree} → IsItem w p q t → Stops w p → ⊥
item_begins (Letter a) s = s.letter a
item_begins (Bracket a r c) s = s.bracket a

run_begins : {w : List ℕ} {p q : ℕ} {t : Tree} → IsRun w p q t → Stops w p → ⊥
run_begins (Last a) s = item_begins a s
run_begins (More a r) s = item_begins a s

mutual
  same_item : {w : List ℕ} {p q q' : ℕ} {t u : Tree} → IsItem w p q t → IsItem w p q' u → (q ≡ q') × (t ≡ u)
  same_item (Letter a) (Letter b) = (refl, refl)
  same_item {w} {p} (Letter a) (Bracket b r c) = absurd (other_terminal w p 2 3 (lit< tt) a b)
  same_item {w} {p} (Bracket b r c) (Letter a) = absurd (other_terminal w p 2 3 (lit< tt) a b)
  same_item {w} {p} (Bracket {q = m} a r c) (Bracket {q = m'} b s d) =
      let (e, f) = same_run r s (closing_stops w m c) (closing_stops w m' d) in
      (ap suc e, λ j. bracket p (e j) (f j))

  pub same_run : {w : List ℕ} {p q q' : ℕ} {t u : Tree} → IsRun w p q t → IsRun w p q' u → Stops w q → Stops w q' → (q ≡ q') × (t ≡ u)
  same_run {w} {p} (Last a) (Last b) s s' = let (e, f) = same_item a b in (e, λ j. Node 1 (Child NoChild (f j)) p (e j))
  same_run {w} {p} (Last a) (More b r) s s' = let (e, f) = same_item a b in absurd (run_begins r (subst (Stops w) e s))
  same_run {w} {p} (More a r) (Last b) s s' = let (e, f) = same_item a b in absurd (run_begins r (subst (Stops w) (sym e) s'))
  same_run {w} {p} {q' = q'} (More a r) (More {u = u} b r') s s' =
      let (e, f) = same_item a b in
      let (g, h) = same_run r (subst (λ z. IsRun w z q' u) (sym e) r') s s' in
      (g, λ j. Node 0 (Child (Child NoChild (f j)) (h j)) p (g j))

mutual
  item_forward : {w : List ℕ} {p q : ℕ} {t : Tree} → IsItem w p q t → p < q
  item_forward (Letter a) = omega arith
  item_forward (Bracket a r c) = let lt = run_forward r in omega (arith, lt)

  run_forward : {w : List ℕ} {p q : ℕ} {t : Tree} → IsRun w p q t → p < q
  run_forward (Last a) = item_forward a
  run_forward (More a r) = let lt = item_forward a in let lt' = run_forward r in omega (arith, lt, lt')

-- ---- they are the derivations

-- the edges are those of the terminals, each from its place to the next
pub record AreEdges (w : List ℕ) (edge : Edges) : Type 0 where
  pub from_edge : (s p q : ℕ) → edge s p q → At w p s × (suc p ≡ q)
  pub to_edge : (s p : ℕ) → At w p s → edge s p (suc p)

module _ (w : List ℕ) (edge : Edges) (are : AreEdges w edge) where
  leaf : (n p : ℕ) → 2 ≤ n → At w p n → Derives work_g1 edge (slot_of n) p (suc p) (Leaf n p (suc p))
  leaf n p le a = record { symbol_is = refl; from_is = refl; to_is = refl; terminal = terminal n le; held = are.to_edge n p a }

  mutual
    item_derives : {p q : ℕ} {t : Tree} → IsItem w p q t → Derives work_g1 edge (slot_of 1) p q t
    item_derives {p} (Letter a) =
        record { from_is = refl; to_is = refl; spans = omega arith; in_range = lit< tt; fits = (refl, lit≤ tt); complete = refl; prefix = (p, refl, leaf 2 p (lit≤ tt) a) }
    item_derives {p} (Bracket {q = m} a r c) =
        let lt = run_forward r in
        record {
          from_is = refl;
          to_is = refl;
          spans = omega (arith, lt);
          in_range = lit< tt;
          fits = (refl, lit≤ tt);
          complete = refl;
          prefix = (m, (suc p, (p, refl, leaf 3 p (lit≤ tt) a), run_derives r), leaf 4 m (lit≤ tt) c);
        }

    pub run_derives : {p q : ℕ} {t : Tree} → IsRun w p q t → Derives work_g1 edge (slot_of 0) p q t
    run_derives {p} (Last a) =
        record { from_is = refl; to_is = refl; spans = item_forward a; in_range = lit< tt; fits = (refl, lit≤ tt); complete = refl; prefix = (p, refl, item_derives a) }
    run_derives {p} (More {m = m} a r) =
        let lt = item_forward a in
        let lt' = run_forward r in
        record { from_is = refl; to_is = refl; spans = omega (arith, lt, lt'); in_range = lit< tt; fits = (refl, lit≤ tt); complete = refl; prefix = (m, (p, refl, item_derives a), run_derives r) }

  -- a terminal's derivation is a leaf
  leaf_of : (n p q : ℕ) (t : Tree) → 2 ≤ n → Derives work_g1 edge (slot_of n) p q t → At w p n × (suc p ≡ q) × (Leaf n p (suc p) ≡ t)
  leaf_of n p q (Leaf s from to) le d =
      let (a, e) = are.from_edge s from to d.held in
      let at_from : At w p s = subst (λ z. At w z s) d.from_is a in
      let next : suc p ≡ to = ap suc (sym d.from_is) ∙ e in
      (subst (At w p) d.symbol_is at_from, next ∙ d.to_is, λ j. Leaf (sym d.symbol_is j) (sym d.from_is j) (next j))
  leaf_of n p q (Nulled s at) le d = absurd (none_nullable work_g1 solid (slot_of n) d.nullable)
  leaf_of n p q (Node i children from to) le d = absurd (terminal n le i d.in_range d.fits.0)

  mutual
    item_of : (t : Tree) (p q : ℕ) → Derives work_g1 edge (slot_of 1) p q t → IsItem w p q t
    item_of (Leaf s from to) p q d = absurd (no_terminal 1 (lit< tt) (subst (IsTerminal work_g1) d.symbol_is d.terminal))
    item_of (Nulled s at) p q d = absurd (none_nullable work_g1 solid (slot_of 1) d.nullable)
    item_of (Node zero children from to) p q d = absurd (let e = d.fits.0 in omega (arith, e))
    item_of (Node (suc zero) children from to) p q d = absurd (let e = d.fits.0 in omega (arith, e))
    item_of (Node (suc (suc zero)) NoChild from to) p q d = absurd (let e = d.complete in omega (arith, e))
    item_of (Node (suc (suc zero)) (Child NoChild t) from to) p q d =
        let (r, here, dt) = d.prefix in
        let (a, next, is) = leaf_of 2 p q t (lit≤ tt) (subst (λ z. Derives work_g1 edge (slot_of 2) z q t) (sym here) dt) in
        subst (λ (x : ℕ × Tree). IsItem w p x.0 x.1) (λ j. (next j, Node 2 (Child NoChild (is j)) (sym d.from_is j) ((next ∙ sym d.to_is) j))) (Letter a)
    item_of (Node (suc (suc zero)) (Child (Child prefix u) t) from to) p q d = absurd (let e = d.complete in omega (arith, e))
    item_of (Node (suc (suc (suc zero))) NoChild from to) p q d = absurd (let e = d.complete in omega (arith, e))
    item_of (Node (suc (suc (suc zero))) (Child NoChild t) from to) p q d = absurd (let e = d.complete in omega (arith, e))
    item_of (Node (suc (suc (suc zero))) (Child (Child NoChild u) t) from to) p q d = absurd (let e = d.complete in omega (arith, e))
    item_of (Node (suc (suc (suc zero))) (Child (Child (Child NoChild v) u) t) from to) p q d =
        let (m, (n, (r, here, dv), du), dt) = d.prefix in
        let (a, next, is) = leaf_of 3 p n v (lit≤ tt) (subst (λ z. Derives work_g1 edge (slot_of 3) z n v) (sym here) dv) in
        let (c, after, closed) = leaf_of 4 m q t (lit≤ tt) dt in
        let inner = run_of u (suc p) m (subst (λ z. Derives work_g1 edge (slot_of 0) z m u) (sym next) du) in
        subst (λ (x : ℕ × Tree). IsItem w p x.0 x.1) (λ j. (after j, Node 3 (Child (Child (Child NoChild (is j)) u) (closed j)) (sym d.from_is j) ((after ∙ sym d.to_is) j))) (Bracket a inner c)
    item_of (Node (suc (suc (suc zero))) (Child (Child (Child (Child prefix x) v) u) t) from to) p q d = absurd (let e = d.complete in omega (arith, e))
    item_of (Node (suc (suc (suc (suc i)))) children from to) p q d = absurd (let lt = d.in_range in omega (arith, lt))

    pub run_of : (t : Tree) (p q : ℕ) → Derives work_g1 edge (slot_of 0) p q t → IsRun w p q t
    run_of (Leaf s from to) p q d = absurd (no_terminal 0 (lit< tt) (subst (IsTerminal work_g1) d.symbol_is d.terminal))
    run_of (Nulled s at) p q d = absurd (none_nullable work_g1 solid (slot_of 0) d.nullable)
    run_of (Node zero NoChild from to) p q d = absurd (let e = d.complete in omega (arith, e))
    run_of (Node zero (Child NoChild t) from to) p q d = absurd (let e = d.complete in omega (arith, e))
    run_of (Node zero (Child (Child NoChild t) u) from to) p q d =
        let (m, (r, here, dt), du) = d.prefix in
        subst (IsRun w p q) (λ j. Node 0 (Child (Child NoChild t) u) (sym d.from_is j) (sym d.to_is j))
        (More (item_of t p m (subst (λ z. Derives work_g1 edge (slot_of 1) z m t) (sym here) dt)) (run_of u m q du))
    run_of (Node zero (Child (Child (Child prefix x) t) u) from to) p q d = absurd (let e = d.complete in omega (arith, e))
    run_of (Node (suc zero) NoChild from to) p q d = absurd (let e = d.complete in omega (arith, e))
    run_of (Node (suc zero) (Child NoChild t) from to) p q d =
        let (r, here, dt) = d.prefix in
        subst (IsRun w p q) (λ j. Node 1 (Child NoChild t) (sym d.from_is j) (sym d.to_is j))
        (Last (item_of t p q (subst (λ z. Derives work_g1 edge (slot_of 1) z q t) (sym here) dt)))
    run_of (Node (suc zero) (Child (Child prefix u) t) from to) p q d = absurd (let e = d.complete in omega (arith, e))
    run_of (Node (suc (suc zero)) children from to) p q d = absurd (let e = d.fits.0 in omega (arith, e))
    run_of (Node (suc (suc (suc zero))) children from to) p q d = absurd (let e = d.fits.0 in omega (arith, e))
    run_of (Node (suc (suc (suc (suc i)))) children from to) p q d = absurd (let lt = d.in_range in omega (arith, lt))
