-- Settled numbers: heights rise along steps to them, and where one is not settled there is a cycle.
use Rattle.std.proofs.Common.{arith, ◌≡◌, ◌⊎◌, ◌↔◌, inl, inr, ℕ, zero, suc, ◌+◌, ◌-◌, ◌<◌, ◌≤◌, Bool, true, false, nat_lt, ◌==◌, if◌then◌else◌, List, [], ◌∷◌, length, map, take, Contains, All, get_or, slice_index, refl, sym, ◌∙◌, ap, subst}
use Rattle.std.proofs.lemmas.Bool.{eqb-true, eqb-false, cases_lt}
use Rattle.std.proofs.lemmas.List.{get_or-take, length-take-le, get_or-map, length-map}
use Rattle.std.proofs.lemmas.List.Elements.{Contains-get_or}
use Rattle.finite_sets.proofs.Lists.{Contains-none, Contains-map}
use Rattle.indexmap.proofs.IndexTableLemmas.Probe.{OneToOne, pigeonhole}
use Rattle.horn_clauses.specs.Least.{Clause, clause_at, IsLeastSet, AreBelow}
use Rattle.jagged.specs.Rows.{row_at}
use Rattle.grammar_check.specs.Links.{Tied, Step, Walks, AreFloors, AreRows}
use Rattle.grammar_check.specs.Settled.{node_clause, use_clause, IsOfNodes, IsOfUses, Rises}
use Rattle.grammar_check.proofs.Layering.{contains_at, at_contained, step_known}
use Rattle.slot_analysis.proofs.Rounds.{closed_by}
use Rattle.horn_clauses.proofs.Search.{same_or_below}

-- where a number stands first
abbrev pub place : List ℕ → ℕ → ℕ
place [] x = 0
place (y ∷ ys) x = if y == x then 0 else suc (place ys x)

pub place_before : (xs : List ℕ) (x j : ℕ) → j < length xs → slice_index xs j ≡ x → place xs x ≤ j
place_before [] x j lt e = absurd (omega arith)
place_before (y ∷ ys) x j lt e = by (place_before ys x) (y == x) j refl lt e
  where
    by : ((j : ℕ) → j < length ys → slice_index ys j ≡ x → place ys x ≤ j) → (b : Bool) (j : ℕ) → (y == x) ≡ b → j < suc (length ys) → slice_index (y ∷ ys) j ≡ x → (if b then 0 else suc (place ys x)) ≤ j
    by rec true j t lt e = omega arith
    by rec false zero t lt e = absurd (eqb-false y x t e)
    by rec false (suc j) t lt e = let h = rec j (omega arith) e in omega (arith, h)

pub place_at : (xs : List ℕ) (x j : ℕ) → j < length xs → slice_index xs j ≡ x → (place xs x < length xs) × (slice_index xs (place xs x) ≡ x)
place_at [] x j lt e = absurd (omega arith)
place_at (y ∷ ys) x j lt e = by (place_at ys x) (y == x) j refl lt e
  where
    by : ((j : ℕ) → j < length ys → slice_index ys j ≡ x → (place ys x < length ys) × (slice_index ys (place ys x) ≡ x)) → (b : Bool) (j : ℕ) → (y == x) ≡ b → j < suc (length ys) → slice_index (y ∷ ys) j ≡ x →
        ((if b then 0 else suc (place ys x)) < suc (length ys)) × (slice_index (y ∷ ys) (if b then 0 else suc (place ys x)) ≡ x)
    by rec true j t lt e = (omega arith, eqb-true y x t)
    by rec false zero t lt e = absurd (eqb-false y x t e)
    by rec false (suc j) t lt e = let (a, b) = rec j (omega arith) e in (omega (arith, a), b)

pub contained_or : (xs : List ℕ) (x : ℕ) → Contains xs x ⊎ (Contains xs x → ⊥)
contained_or [] x = inr (Contains-none x)
contained_or (y ∷ ys) x = by (y == x) refl (contained_or ys x)
  where
    by : (b : Bool) → (y == x) ≡ b → Contains ys x ⊎ (Contains ys x → ⊥) → Contains (y ∷ ys) x ⊎ (Contains (y ∷ ys) x → ⊥)
    by true t rest = inl (contains_at (y ∷ ys) 0 x (omega arith) (eqb-true y x t))
    by false t (inl h) = let (j, jl, e) = at_contained ys x h in inl (contains_at (y ∷ ys) (suc j) x (omega (arith, jl)) e)
    by false t (inr none) = inr (λ h. let (j, jl, e) = at_contained (y ∷ ys) x h in nowhere j jl e)
      where
        nowhere : (j : ℕ) → j < suc (length ys) → slice_index (y ∷ ys) j ≡ x → ⊥
        nowhere zero jl e = eqb-false y x t e
        nowhere (suc j) jl e = none (contains_at ys j x (omega arith) e)

all_in_cons : (keys : List ℕ) (y : ℕ) (ys : List ℕ) → Contains keys y → All (Contains keys) ys → All (Contains keys) (y ∷ ys)
all_in_cons keys y ys h all zero d lt = h
all_in_cons keys y ys h all (suc k) d lt = all k d (omega arith)

pub all_or : (keys xs : List ℕ) → All (Contains keys) xs ⊎ ((z : ℕ) × Contains xs z × (Contains keys z → ⊥))
all_or keys [] = inl (λ k d lt. absurd (omega arith))
all_or keys (y ∷ ys) = by (contained_or keys y) (all_or keys ys)
  where
    by : Contains keys y ⊎ (Contains keys y → ⊥) → All (Contains keys) ys ⊎ ((z : ℕ) × Contains ys z × (Contains keys z → ⊥)) → All (Contains keys) (y ∷ ys) ⊎ ((z : ℕ) × Contains (y ∷ ys) z × (Contains keys z → ⊥))
    by (inl h) (inl all) = inl (all_in_cons keys y ys h all)
    by (inl h) (inr (z, there, out)) = let (j, jl, e) = at_contained ys z there in inr (z, contains_at (y ∷ ys) (suc j) z (omega (arith, jl)) e, out)
    by (inr out) rest = inr (y, contains_at (y ∷ ys) 0 y (omega arith) refl, out)

pub map_only : (f : ℕ → ℕ) (xs : List ℕ) (z : ℕ) → Contains (map f xs) z → (x : ℕ) × Contains xs x × (z ≡ f x)
map_only f xs z h =
    let (j, jl, e) = at_contained (map f xs) z h in
    let jl' : j < length xs = omega (arith, jl, length-map xs f) in
    (slice_index xs j, Contains-get_or xs j 0 jl', sym e ∙ get_or-map f xs j 0 0 jl')

nat_false : (a b : ℕ) → nat_lt a b ≡ false → a < b → ⊥
nat_false a b e lt = grind (arith, e, lt)

use_next : (floors : List ℕ) (total y : ℕ) → slice_index floors y < y → Contains (use_clause floors total y).body (total + (y - 1))
use_next floors total y lt = by (nat_lt (slice_index floors y) y) refl
  where
    by : (b : Bool) → nat_lt (slice_index floors y) y ≡ b → Contains (y ∷ (if b then (total + (y - 1)) ∷ [] else [])) (total + (y - 1))
    by true e = contains_at (y ∷ (total + (y - 1)) ∷ []) 1 (total + (y - 1)) (omega arith) refl
    by false e = absurd (nat_false (slice_index floors y) y e lt)

use_only : (floors : List ℕ) (total y z : ℕ) → Contains (use_clause floors total y).body z → (z ≡ y) ⊎ ((slice_index floors y < y) × (z ≡ total + (y - 1)))
use_only floors total y z h = by (nat_lt (slice_index floors y) y) refl h
  where
    nat_true : (a b : ℕ) → nat_lt a b ≡ true → a < b
    nat_true a b e = grind (arith, e)

    two : (j : ℕ) → j < 2 → slice_index (y ∷ (total + (y - 1)) ∷ []) j ≡ z → (z ≡ y) ⊎ (z ≡ total + (y - 1))
    two zero jl e = inl (sym e)
    two (suc zero) jl e = inr (sym e)
    two (suc (suc j)) jl e = absurd (omega arith)

    one : (j : ℕ) → j < 1 → slice_index (y ∷ []) j ≡ z → z ≡ y
    one zero jl e = sym e
    one (suc j) jl e = absurd (omega arith)

    by : (b : Bool) → nat_lt (slice_index floors y) y ≡ b → Contains (y ∷ (if b then (total + (y - 1)) ∷ [] else [])) z → (z ≡ y) ⊎ ((slice_index floors y < y) × (z ≡ total + (y - 1)))
    by true e h = let (j, jl, is) = at_contained (y ∷ (total + (y - 1)) ∷ []) z h in elim (two j jl is) [ inl a ↦ inl a | inr b ↦ inr (nat_true (slice_index floors y) y e, b) ]
    by false e h = let (j, jl, is) = at_contained (y ∷ []) z h in inl (one j jl is)

row_small : (rows : List (List ℕ)) (t h : ℕ) → Contains (row_at rows t) h → t < length rows
row_small rows t h there = elim (cases_lt t (length rows)) [ inl lt ↦ lt | inr past ↦ absurd (Contains-none h (subst (λ (l : List ℕ). Contains l h) (beyond rows t past) there)) ]
  where
    beyond : (rows : List (List ℕ)) (t : ℕ) → length rows ≤ t → row_at rows t ≡ []
    beyond [] t le = refl
    beyond (r ∷ rs) zero le = absurd (omega arith)
    beyond (r ∷ rs) (suc t) le = beyond rs t (omega arith)

module _ (rows : List (List ℕ)) (floors : List ℕ) (cs : List Clause) (keys : List ℕ) (sized : length rows ≡ length floors) (known : AreRows (length rows) rows) (f : AreFloors floors)
    (has : (c : Clause) → Contains cs c ↔ (IsOfNodes rows (length rows) (length rows) c ⊎ IsOfUses floors (length rows) (length rows) c)) (least : IsLeastSet cs keys) where
  abbrev total : ℕ
  total = length rows

  -- what a number was made from stands before it
  made_before : (x : ℕ) → Contains keys x → (c : Clause) × Contains cs c × (c.head ≡ x) × ((y : ℕ) → Contains c.body y → Contains keys y × (place keys y < place keys x))
  made_before x h =
      let (j, jl, e) = at_contained keys x h in
      let (pl, pe) = place_at keys x j jl e in
      let (i, il, head, body) = least.made (place keys x) pl in
      let long : length (take (place keys x) keys) ≡ place keys x = length-take-le (place keys x) keys (omega (arith, pl)) in (
        clause_at cs i,
        Contains-get_or cs i (record { head = 0; body = [] }) il,
        head ∙ pe,
        λ y there.
            let (m, ml, me) = at_contained (clause_at cs i).body y there in
            let (q, ql, qe) = at_contained (take (place keys x) keys) y (subst (Contains (take (place keys x) keys)) me (body m 0 ml)) in
            let small : q < place keys x = omega (arith, ql, long) in
            let at : slice_index keys q ≡ y = sym (get_or-take (place keys x) keys q 0 small) ∙ qe in
            let before = place_before keys y q (omega (arith, small, pl)) at in
            (contains_at keys q y (omega (arith, small, pl)) at, omega (arith, before, small)),
      )

  node_made : (t : ℕ) → t < total → Contains keys t → (h : ℕ) → Contains (row_at rows t) h → Contains keys (total + h) × (place keys (total + h) < place keys t)
  node_made t lt there h row =
      let (c, cin, head, body) = made_before t there in
      elim ((has c).0 cin) [
        | inl (y, yl, is) ↦
            let same : y ≡ t = sym (ap (λ c. c.head) is) ∙ head in
            body (total + h) (subst (λ c. Contains c.body (total + h)) (sym is) (subst (λ y. Contains (map (λ h. total + h) (row_at rows y)) (total + h)) (sym same) (Contains-map (λ h. total + h) (row_at rows t) h row)))
        | inr (y, yl, is) ↦ let z : total + y ≡ t = sym (ap (λ c. c.head) is) ∙ head in absurd (omega (arith, z, lt))
      ]

  use_made : (y : ℕ) → Contains keys (total + y) → (z : ℕ) → Contains (use_clause floors total y).body z → Contains keys z × (place keys z < place keys (total + y))
  use_made y there z row =
      let (c, cin, head, body) = made_before (total + y) there in
      elim ((has c).0 cin) [
        | inl (q, ql, is) ↦ let e : q ≡ total + y = sym (ap (λ c. c.head) is) ∙ head in absurd (omega (arith, e, ql))
        | inr (q, ql, is) ↦
            let e : total + q ≡ total + y = sym (ap (λ c. c.head) is) ∙ head in
            let same : q ≡ y = omega (arith, e) in
            body z (subst (λ c. Contains c.body z) (sym is) (subst (λ y. Contains (use_clause floors total y).body z) (sym same) row))
      ]

  chain : (d x : ℕ) → x + d < total → slice_index floors (x + d) ≤ x → Contains keys (total + (x + d)) → Contains keys (total + x) × (place keys (total + x) ≤ place keys (total + (x + d)))
  chain zero x lt tied there =
      let z : x + 0 ≡ x = omega arith in
      (subst (λ y. Contains keys (total + y)) z there, (let e = ap (λ y. place keys (total + y)) z in omega (arith, e)))
  chain (suc d) x lt tied there =
      let y = x + suc d in
      let z : y - 1 ≡ x + d = omega arith in
      let (h, before) = use_made y there (total + (y - 1)) (use_next floors total y (omega (arith, tied))) in
      let same = f.same y (x + d) (omega (arith, lt, sized)) (omega (arith, tied)) (omega arith) in
      let (h', before') = chain d x (omega (arith, lt)) (omega (arith, same, tied)) (subst (λ w. Contains keys (total + w)) z h) in
      (h', (let e = ap (λ w. place keys (total + w)) z in omega (arith, e, before, before')))

  pub step_falls : (x t : ℕ) → t < total → Step rows floors x t → Contains keys t → Contains keys x × (place keys x < place keys t)
  step_falls x t lt (h, row, (low, up)) there =
      let (uh, ub) = node_made t lt there h row in
      let e : x + (h - x) ≡ h = omega (arith, up) in
      let (ux, xb) = chain (h - x) x (let k = known t h row in omega (arith, k, e)) (subst (λ h. slice_index floors h ≤ x) (sym e) low) (subst (λ h. Contains keys (total + h)) (sym e) uh) in
      let (xx, last) = use_made x ux x (contains_at (use_clause floors total x).body 0 x (omega arith) refl) in
      (xx, (let z = ap (λ h. place keys (total + h)) e in omega (arith, ub, xb, last, z)))

  pub walk_falls : (to : ℕ) → to < total → Contains keys to → (m x : ℕ) → Walks rows floors to (suc m) x → Contains keys x × (place keys x < place keys to)
  walk_falls to lt there zero x (t, s, e) = step_falls x to lt (subst (Step rows floors x) e s) there
  walk_falls to lt there (suc m) x (t, s, w) =
      let (tk, tb) = walk_falls to lt there m t w in
      let (u, s', w') = w in
      let tl : t < total = (let k = step_known rows floors t u (subst (λ n. AreRows n rows) sized known) s' in omega (arith, k, sized)) in
      let (xk, xb) = step_falls x t tl s tk in
      (xk, omega (arith, xb, tb))

  -- a settled number is on no cycle
  pub settled_none : (to : ℕ) → to < total → Contains keys to → (m : ℕ) → Walks rows floors to (suc m) to → ⊥
  settled_none to lt there m w = let (k, b) = walk_falls to lt there m to w in omega (arith, b)

  -- heights, where all are settled
  pub all_rise : ((x : ℕ) → x < total → Contains keys x) → Rises rows floors
  all_rise all = record {
    height = place keys;
    top = length keys;
    below = λ t lt. let (j, jl, e) = at_contained keys t (all t lt) in (place_at keys t j jl e).0;
    rises = λ x t lt s. (step_falls x t lt s (all t lt)).1;
  }

  -- WHAT IS NOT SETTLED

  climb : (h : ℕ) → h < total → (Contains keys (total + h) → ⊥) → (x : ℕ) × Tied floors x h × (Contains keys x → ⊥)
  climb zero lt out = by (all_or keys (use_clause floors total 0).body)
    where
      by : All (Contains keys) (use_clause floors total 0).body ⊎ ((z : ℕ) × Contains (use_clause floors total 0).body z × (Contains keys z → ⊥)) → (x : ℕ) × Tied floors x 0 × (Contains keys x → ⊥)
      by (inl all) = absurd (out (closed_by cs keys (use_clause floors total 0) least.closed ((has (use_clause floors total 0)).1 (inr (0, lt, refl))) all))
      by (inr (z, there, out')) = elim (use_only floors total 0 z there) [
        | inl e ↦ (0, ((let b = f.below 0 (omega (arith, lt, sized)) in omega (arith, b)), omega arith), λ h. out' (subst (Contains keys) (sym e) h))
        | inr (low, e) ↦ absurd (omega (arith, low))
      ]
  climb (suc h) lt out = by (climb h) (all_or keys (use_clause floors total (suc h)).body)
    where
      by : (h < total → (Contains keys (total + h) → ⊥) → (x : ℕ) × Tied floors x h × (Contains keys x → ⊥)) → All (Contains keys) (use_clause floors total (suc h)).body ⊎ ((z : ℕ) × Contains (use_clause floors total (suc h)).body z × (Contains keys z → ⊥)) → (x : ℕ) × Tied floors x (suc h) × (Contains keys x → ⊥)
      by rec (inl all) = absurd (out (closed_by cs keys (use_clause floors total (suc h)) least.closed ((has (use_clause floors total (suc h))).1 (inr (suc h, lt, refl))) all))
      by rec (inr (z, there, out')) = elim (use_only floors total (suc h) z there) [
        | inl e ↦ (suc h, ((let b = f.below (suc h) (omega (arith, lt, sized)) in omega (arith, b)), omega arith), λ k. out' (subst (Contains keys) (sym e) k))
        | inr (low, e) ↦
            let (x, (a, b), none) = rec (omega (arith, lt)) (λ k. out' (subst (Contains keys) (let w : total + h ≡ z = omega (arith, e) in w) k)) in
            let same = f.same (suc h) h (omega (arith, lt, sized)) (omega (arith, low)) (omega arith) in
            (x, (omega (arith, a, same), omega (arith, b)), none)
      ]

  -- to a number that is not settled there is a step from another
  before_open : (t : ℕ) → t < total → (Contains keys t → ⊥) → (x : ℕ) × Step rows floors x t × (x < total) × (Contains keys x → ⊥)
  before_open t lt out = by (all_or keys (node_clause rows total t).body)
    where
      by : All (Contains keys) (node_clause rows total t).body ⊎ ((z : ℕ) × Contains (node_clause rows total t).body z × (Contains keys z → ⊥)) → (x : ℕ) × Step rows floors x t × (x < total) × (Contains keys x → ⊥)
      by (inl all) = absurd (out (closed_by cs keys (node_clause rows total t) least.closed ((has (node_clause rows total t)).1 (inl (t, lt, refl))) all))
      by (inr (z, there, out')) =
          let (h, row, e) = map_only (λ h. total + h) (row_at rows t) z there in
          let k = known t h row in
          let (x, (a, b), none) = climb h k (λ q. out' (subst (Contains keys) (sym e) q)) in
          (x, (h, row, (a, b)), omega (arith, b, k), none)

  module _ (start : ℕ) (sl : start < total) (out : Contains keys start → ⊥) where
    abbrev endless : ℕ → (x : ℕ) × (x < total) × (Contains keys x → ⊥)
    endless zero = (start, sl, out)
    endless (suc i) = let (t, tl, open_t) = endless i in let (x, s, xl, none) = before_open t tl open_t in (x, xl, none)

    abbrev at : ℕ → ℕ
    at i = (endless i).0

    one : (j : ℕ) → Step rows floors (at (suc j)) (at j)
    one j = (before_open (endless j).0 (endless j).1 (endless j).2).1

    back : (i d : ℕ) → Walks rows floors (at i) d (at (i + d))
    back i zero = ap at (let z : i + 0 ≡ i = omega arith in z)
    back i (suc d) = subst (λ n. Walks rows floors (at i) (suc d) (at n)) (let z : suc (i + d) ≡ i + suc d = omega arith in z) (at (i + d), one (i + d), back i d)

    -- so some number is on a cycle
    pub not_endless : ((x m : ℕ) → x < total → Walks rows floors x (suc m) x → ⊥) → ⊥
    not_endless none = let le = pigeonhole (suc total) total at (λ i lt. (endless i).1) one_to_one in omega (arith, le)
      where
        less : (i j : ℕ) → i < j → at i ≡ at j → ⊥
        less i j lt e =
            let z : i + suc (j - i - 1) ≡ j = omega arith in
            none (at i) (j - i - 1) (endless i).1 (subst (Walks rows floors (at i) (suc (j - i - 1))) (ap at z ∙ sym e) (back i (suc (j - i - 1))))

        compare : (i j : ℕ) → (i < j) ⊎ ((j < i) ⊎ (i ≡ j))
        compare i j = grind arith

        one_to_one : OneToOne at (suc total)
        one_to_one i j il jl e = elim (compare i j) [ inl lt ↦ absurd (less i j lt e) | inr (inl gt) ↦ absurd (less j i gt (sym e)) | inr (inr same) ↦ same ]

  pub all_settled : ((x m : ℕ) → x < total → Walks rows floors x (suc m) x → ⊥) → (x : ℕ) → x < total → Contains keys x
  all_settled none x lt = elim (contained_or keys x) [ inl h ↦ h | inr out ↦ absurd (not_endless x lt out none) ]

pub nodes_split : (rows : List (List ℕ)) (total n : ℕ) (c : Clause) → IsOfNodes rows total (n + 1) c ↔ (IsOfNodes rows total n c ⊎ (c ≡ node_clause rows total n))
nodes_split rows total n c = (
  λ (y, lt, e). elim (same_or_below y n lt) [ inl b ↦ inl (y, b, e) | inr s ↦ inr (e ∙ ap (node_clause rows total) s) ],
  λ h. elim h [ inl (y, lt, e) ↦ (y, omega arith, e) | inr e ↦ (n, omega arith, e) ],
)

pub uses_split : (floors : List ℕ) (total n : ℕ) (c : Clause) → IsOfUses floors total (n + 1) c ↔ (IsOfUses floors total n c ⊎ (c ≡ use_clause floors total n))
uses_split floors total n c = (
  λ (y, lt, e). elim (same_or_below y n lt) [ inl b ↦ inl (y, b, e) | inr s ↦ inr (e ∙ ap (use_clause floors total) s) ],
  λ h. elim h [ inl (y, lt, e) ↦ (y, omega arith, e) | inr e ↦ (n, omega arith, e) ],
)

pub use_is : (floors : List ℕ) (total y : ℕ) (body : List ℕ) → ((slice_index floors y < y) × (body ≡ y ∷ (total + (y - 1)) ∷ [])) ⊎ ((y ≤ slice_index floors y) × (body ≡ y ∷ [])) → body ≡ (use_clause floors total y).body
use_is floors total y body h = by (nat_lt (slice_index floors y) y) refl h
  where
    low : (a b : ℕ) → nat_lt a b ≡ false → a < b → ⊥
    low a b e lt = grind (arith, e, lt)

    up : (a b : ℕ) → nat_lt a b ≡ true → b ≤ a → ⊥
    up a b e le = grind (arith, e, le)

    by : (t : Bool) → nat_lt (slice_index floors y) y ≡ t → ((slice_index floors y < y) × (body ≡ y ∷ (total + (y - 1)) ∷ [])) ⊎ ((y ≤ slice_index floors y) × (body ≡ y ∷ [])) → body ≡ y ∷ (if t then (total + (y - 1)) ∷ [] else [])
    by true t (inl (lt, e)) = e
    by true t (inr (le, e)) = absurd (up (slice_index floors y) y t le)
    by false t (inl (lt, e)) = absurd (low (slice_index floors y) y t lt)
    by false t (inr (le, e)) = e

module _ (rows : List (List ℕ)) (floors : List ℕ) (cs : List Clause) (known : AreRows (length rows) rows) (has : (c : Clause) → Contains cs c ↔ (IsOfNodes rows (length rows) (length rows) c ⊎ IsOfUses floors (length rows) (length rows) c)) where
  abbrev Low : Clause → Type 0
  Low c = (c.head < length rows + length rows) × All (λ x. x < length rows + length rows) c.body

  low_of : (c : Clause) → IsOfNodes rows (length rows) (length rows) c ⊎ IsOfUses floors (length rows) (length rows) c → Low c
  low_of c (inl (y, lt, is)) = subst Low (sym is) (
    omega (arith, lt),
    λ k d kl.
        let (h, row, e) = map_only (λ h. length rows + h) (row_at rows y) (get_or (map (λ h. length rows + h) (row_at rows y)) k d) (Contains-get_or (map (λ h. length rows + h) (row_at rows y)) k d kl) in
        let small = known y h row in
        omega (arith, e, small),
  )
  low_of c (inr (y, lt, is)) = subst Low (sym is) (
    omega (arith, lt),
    λ k d kl.
        elim (use_only floors (length rows) y (get_or (use_clause floors (length rows) y).body k d) (Contains-get_or (use_clause floors (length rows) y).body k d kl)) [
          | inl e ↦ omega (arith, e, lt)
          | inr (low, e) ↦ omega (arith, e, lt)
        ],
  )

  pub settling_below : AreBelow (length rows + length rows) cs
  settling_below i il = low_of (clause_at cs i) ((has (clause_at cs i)).0 (Contains-get_or cs i (record { head = 0; body = [] }) il))
