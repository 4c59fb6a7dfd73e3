-- Numbers that go into rows.
use Rattle.std.proofs.Common.{arith, ◌≡◌, ◌≢◌, ◌↔◌, ◌⊎◌, inl, inr, ℕ, zero, suc, ◌+◌, ◌-◌, ◌<◌, ◌≤◌, Bool, true, false, cond, List, [], ◌∷◌, ◌++◌, length, Contains, get_or, slice_index, slice_set, refl, sym, ◌∙◌, ap, subst, length-append, length-set}
use Rattle.std.specs.Prelude.{◌==◌}
use Rattle.std.specs.List.{range_with_len}
use Rattle.std.proofs.Math.ListN.{get_or-eq_default}
use Rattle.std.proofs.lemmas.Bool.{eqb-true}
use Rattle.std.proofs.lemmas.List.{get_or-map, get_or_append_left, get_or_push, get_or_default, get_or-set_same, get_or-set_other}
use Rattle.std.proofs.lemmas.List.FromFn.{length-map-range_with_len, length-range_with_len, get_or-range_with_len}
use Rattle.std.proofs.lemmas.List.Elements.{Contains-append_left, Contains-push, Contains-push_cases}
use Rattle.finite_sets.proofs.Lists.{Contains-none}
use Rattle.horn_clauses.specs.Rows.{HasAdded, HasSameRows}
use Rattle.jagged.specs.Rows.{row_at}
use Rattle.horn_clauses.specs.Gathered.{pair_at, numbers_of, gathered, AreWithin, HasFrom, IsLast, AreLinks}
use Rattle.horn_clauses.proofs.Search.{same_or_below, same_or_other}

pub gathered_long : (count : ℕ) (pairs : List (ℕ × ℕ)) → length (gathered count pairs) ≡ count
gathered_long count pairs = length-map-range_with_len (λ x. numbers_of x pairs) 0 count

gathered_row : (count : ℕ) (pairs : List (ℕ × ℕ)) (x : ℕ) → x < count → row_at (gathered count pairs) x ≡ numbers_of x pairs
gathered_row count pairs x lt =
    get_or-map (λ y. numbers_of y pairs) (range_with_len 0 count) x 0 [] (let l = length-range_with_len 0 count in omega (arith, l, lt)) ∙ ap (λ y. numbers_of y pairs) (get_or-range_with_len 0 count x 0 lt ∙ (let z : 0 + x ≡ x = omega arith in z))

gathered_past : (count : ℕ) (pairs : List (ℕ × ℕ)) (x : ℕ) → count ≤ x → row_at (gathered count pairs) x ≡ []
gathered_past count pairs x le = get_or-eq_default (gathered count pairs) [] (let l = gathered_long count pairs in omega (arith, l, le))

pub none_gathered : (count x : ℕ) → row_at (gathered count []) x ≡ []
none_gathered count x = elim (apart x count) [ inl lt ↦ gathered_row count [] x lt | inr le ↦ gathered_past count [] x le ]
  where
    apart : (a b : ℕ) → (a < b) ⊎ (b ≤ a)
    apart a b = grind arith

behind : (p : ℕ × ℕ) (ps : List (ℕ × ℕ)) (x n : ℕ) → HasFrom ps x 0 n → HasFrom (p ∷ ps) x 0 n
behind p ps x n (k, le, lt, a, b) = (suc k, omega arith, omega arith, a, b)

numbers_from : (x n : ℕ) (pairs : List (ℕ × ℕ)) → Contains (numbers_of x pairs) n → HasFrom pairs x 0 n
numbers_from x n [] h = absurd (Contains-none n h)
numbers_from x n (p ∷ ps) h = go (p.0 == x) refl h (numbers_from x n ps)
  where
    go : (b : Bool) → (p.0 == x) ≡ b → Contains (cond b (p.1 ∷ numbers_of x ps) (numbers_of x ps)) n → (Contains (numbers_of x ps) n → HasFrom ps x 0 n) → HasFrom (p ∷ ps) x 0 n
    go true e (zero, lt, f) rest = (zero, omega arith, omega arith, eqb-true p.0 x e, f)
    go true e (suc k, lt, f) rest = behind p ps x n (rest (k, omega arith, f))
    go false e h rest = behind p ps x n (rest h)

numbers_to : (x n : ℕ) (pairs : List (ℕ × ℕ)) (k : ℕ) → k < length pairs → (pair_at pairs k).0 ≡ x → (pair_at pairs k).1 ≡ n → Contains (numbers_of x pairs) n
numbers_to x n [] k lt a b = absurd (omega (arith, lt))
numbers_to x n (p ∷ ps) zero lt a b = go (p.0 == x) refl
  where
    other : (a b : ℕ) → (a == b) ≡ false → a ≡ b → ⊥
    other a b e f = grind (arith, e, f)

    go : (b : Bool) → (p.0 == x) ≡ b → Contains (cond b (p.1 ∷ numbers_of x ps) (numbers_of x ps)) n
    go true e = (zero, omega arith, b)
    go false e = absurd (other p.0 x e a)
numbers_to x n (p ∷ ps) (suc k) lt a b = go (p.0 == x) (numbers_to x n ps k (omega arith) a b)
  where
    go : (b : Bool) → Contains (numbers_of x ps) n → Contains (cond b (p.1 ∷ numbers_of x ps) (numbers_of x ps)) n
    go true (j, less, f) = (suc j, omega arith, f)
    go false h = h

-- what is in a row came by a pair
pub row_from : (count : ℕ) (pairs : List (ℕ × ℕ)) (x n : ℕ) → Contains (row_at (gathered count pairs) x) n → (x < count) × HasFrom pairs x 0 n
row_from count pairs x n h = elim (apart x count) [
  | inl lt ↦ (lt, numbers_from x n pairs (subst (λ l. Contains l n) (gathered_row count pairs x lt) h))
  | inr le ↦ absurd (Contains-none n (subst (λ l. Contains l n) (gathered_past count pairs x le) h))
]
  where
    apart : (a b : ℕ) → (a < b) ⊎ (b ≤ a)
    apart a b = grind arith

pub row_to : (count : ℕ) (pairs : List (ℕ × ℕ)) (x n : ℕ) → x < count → HasFrom pairs x 0 n → Contains (row_at (gathered count pairs) x) n
row_to count pairs x n lt (k, le, less, a, b) = subst (λ l. Contains l n) (sym (gathered_row count pairs x lt)) (numbers_to x n pairs k less a b)

has_more : (pairs : List (ℕ × ℕ)) (q : ℕ × ℕ) (x n : ℕ) → HasFrom pairs x 0 n → HasFrom (pairs ++ q ∷ []) x 0 n
has_more pairs q x n (k, le, lt, a, b) =
    let same : pair_at (pairs ++ q ∷ []) k ≡ pair_at pairs k = get_or_append_left pairs (q ∷ []) (0, 0) k lt in
    let long = length-append pairs (q ∷ []) in
    (k, le, omega (arith, long, lt), ap (λ p. p.0) same ∙ a, ap (λ p. p.1) same ∙ b)

has_cases : (pairs : List (ℕ × ℕ)) (q : ℕ × ℕ) (x n : ℕ) → HasFrom (pairs ++ q ∷ []) x 0 n → HasFrom pairs x 0 n ⊎ ((x ≡ q.0) × (n ≡ q.1))
has_cases pairs q x n (k, le, lt, a, b) =
    let long = length-append pairs (q ∷ []) in
    elim (same_or_below k (length pairs) (omega (arith, long, lt))) [
      | inl before ↦
          let same : pair_at (pairs ++ q ∷ []) k ≡ pair_at pairs k = get_or_append_left pairs (q ∷ []) (0, 0) k before in
          inl (k, le, before, ap (λ p. p.0) (sym same) ∙ a, ap (λ p. p.1) (sym same) ∙ b)
      | inr last ↦
          let same : pair_at (pairs ++ q ∷ []) k ≡ q = get_or_push pairs q (0, 0) k (sym last) in
          inr (sym a ∙ ap (λ p. p.0) same, sym b ∙ ap (λ p. p.1) same)
    ]

pub pair_added : (count : ℕ) (pairs new : List (ℕ × ℕ)) (x n : ℕ) → x < count → new ≡ pairs ++ (x, n) ∷ [] → HasAdded (gathered count pairs) (gathered count new) x n
pair_added count pairs new x n lt e = subst (λ (ps : List (ℕ × ℕ)). HasAdded (gathered count pairs) (gathered count ps) x n) (sym e) (record {
  same_length = gathered_long count (pairs ++ (x, n) ∷ []) ∙ sym (gathered_long count pairs);
  keeps = λ y j h. let (less, has) = row_from count pairs y j h in row_to count (pairs ++ (x, n) ∷ []) y j less (has_more pairs (x, n) y j has);
  only = λ y j h. let (less, has) = row_from count (pairs ++ (x, n) ∷ []) y j h in elim (has_cases pairs (x, n) y j has) [ inl before ↦ inl (row_to count pairs y j less before) | inr now ↦ inr now ];
  has =
      let long = length-append pairs ((x, n) ∷ []) in
      let same : pair_at (pairs ++ (x, n) ∷ []) (length pairs) ≡ (x, n) = get_or_push pairs (x, n) (0, 0) (length pairs) refl in
      row_to count (pairs ++ (x, n) ∷ []) x n lt (length pairs, omega arith, omega (arith, long), ap (λ p. p.0) same, ap (λ p. p.1) same);
})

pub none_within : (count : ℕ) → AreWithin count []
none_within count k lt = absurd (omega (arith, lt))

pub within_more : (count : ℕ) (pairs new : List (ℕ × ℕ)) (x n : ℕ) → x < count → new ≡ pairs ++ (x, n) ∷ [] → AreWithin count pairs → AreWithin count new
within_more count pairs new x n lt e w = subst (AreWithin count) (sym e) (λ k less.
    let long = length-append pairs ((x, n) ∷ []) in
    elim (same_or_below k (length pairs) (omega (arith, long, less))) [
      | inl before ↦ subst (λ p. p.0 < count) (sym (get_or_append_left pairs ((x, n) ∷ []) (0, 0) k before)) (w k before)
      | inr last ↦ subst (λ p. p.0 < count) (sym (get_or_push pairs (x, n) (0, 0) k (sym last))) lt
    ])

-- LINKS FROM A PAIR TO THE ONE OF ITS ROW BEFORE IT

pub links_none : (pairs : List (ℕ × ℕ)) (last before : List ℕ) → before ≡ [] → ((x : ℕ) → x < length last → slice_index last x ≡ 0) → AreLinks pairs 0 last before
links_none pairs last before e zeros = record {
  sized = ap (λ (l : List ℕ). length l) e;
  last_of = λ x lt. record { within = let z = zeros x lt in omega (arith, z); here = λ k is. absurd (let z = zeros x lt in omega (arith, z, is)); none = λ k le less. absurd (omega (arith, less)) };
  before_of = λ k lt. absurd (omega (arith, lt));
}

module _ (pairs : List (ℕ × ℕ)) (n x : ℕ) (last before : List ℕ) (lt : x < length last) (is : (pair_at pairs n).0 ≡ x) (links : AreLinks pairs n last before) where
  later : (y q : ℕ) → y ≢ x → IsLast pairs y n q → IsLast pairs y (n + 1) q
  later y q ne l = record {
    within = let w = l.within in omega (arith, w);
    here = l.here;
    none = λ k le less. elim (same_or_below k n (omega (arith, less))) [
      | inl below ↦ l.none k le below
      | inr same ↦ λ e. ne (sym e ∙ (ap (λ k. (pair_at pairs k).0) same ∙ is))
    ];
  }

  now : IsLast pairs x (n + 1) (n + 1)
  now = record {
    within = omega arith;
    here = λ k e. ap (λ k. (pair_at pairs k).0) (let z : k ≡ n = omega (arith, e) in z) ∙ is;
    none = λ k le less. absurd (omega (arith, le, less));
  }

  pub links_more : AreLinks pairs (n + 1) (slice_set last x (n + 1)) (before ++ slice_index last x ∷ [])
  links_more = record {
    sized = length-append before (slice_index last x ∷ []) ∙ (let s = links.sized in omega (arith, s));
    last_of = λ y less. elim (same_or_other y x) [
      | inl same ↦ subst (λ y. IsLast pairs y (n + 1) (slice_index (slice_set last x (n + 1)) y)) (sym same) (subst (IsLast pairs x (n + 1)) (sym (get_or-set_same last x (n + 1) 0 lt)) now)
      | inr ne ↦ subst (IsLast pairs y (n + 1)) (sym (get_or-set_other last x y (n + 1) 0 ne))
          (later y (slice_index last y) ne (links.last_of y (let l = length-set last x (n + 1) in omega (arith, l, less))))
    ];
    before_of = λ k less. elim (same_or_below k n (omega (arith, less))) [
      | inl below ↦ subst (IsLast pairs (pair_at pairs k).0 k) (sym (get_or_append_left before (slice_index last x ∷ []) 0 k (let s = links.sized in omega (arith, s, below)))) (links.before_of k below)
      | inr same ↦ subst (λ k. IsLast pairs (pair_at pairs k).0 k (slice_index (before ++ slice_index last x ∷ []) k)) (sym same)
          (subst (IsLast pairs (pair_at pairs n).0 n) (sym (get_or_push before (slice_index last x) 0 n links.sized)) (subst (λ y. IsLast pairs y n (slice_index last x)) (sym is) (links.last_of x lt)))
    ];
  }

pub links_step : (pairs : List (ℕ × ℕ)) (n count index : ℕ) (last before new : List ℕ) → AreWithin count pairs → n < length pairs → length last ≡ count → index ≡ get_or last (pair_at pairs n).0 index → new ≡ before ++ index ∷ [] →
    AreLinks pairs n last before → (length (slice_set last (pair_at pairs n).0 (n + 1)) ≡ count) × AreLinks pairs (n + 1) (slice_set last (pair_at pairs n).0 (n + 1)) new
links_step pairs n count index last before new within lt long is e links =
    let known = within n lt in
    let at : index ≡ slice_index last (pair_at pairs n).0 = is ∙ get_or_default last (pair_at pairs n).0 index 0 (omega (arith, known, long)) in (
      length-set last (pair_at pairs n).0 (n + 1) ∙ long,
      subst (AreLinks pairs (n + 1) (slice_set last (pair_at pairs n).0 (n + 1))) (sym (e ∙ ap (λ (i : ℕ). before ++ i ∷ []) at))
          (links_more pairs n (pair_at pairs n).0 last before (omega (arith, known, long)) refl links),
    )

-- A WALK ALONG THE PAIRS OF A ROW, FROM THE LAST ONE: THE ROW HAS WHAT STANDS FROM SOME PLACE ON

pub record IsCollected (pairs : List (ℕ × ℕ)) (x next : ℕ) (row : List ℕ) : Type 0 where
  pub within : next ≤ length pairs
  pub here : (k : ℕ) → suc k ≡ next → (pair_at pairs k).0 ≡ x
  pub told : (n : ℕ) → Contains row n ↔ HasFrom pairs x next n

pub collect_begun : (pairs : List (ℕ × ℕ)) (x next : ℕ) (row : List ℕ) → row ≡ [] → IsLast pairs x (length pairs) next → IsCollected pairs x next row
collect_begun pairs x next row e l = record {
  within = l.within;
  here = l.here;
  told = λ n. (λ h. absurd (Contains-none n (subst (λ r. Contains r n) e h)), λ (k, le, lt, a, b). absurd (l.none k le lt a));
}

pub collect_more : (pairs : List (ℕ × ℕ)) (x next k to : ℕ) (row new : List ℕ) → next ≡ suc k → new ≡ row ++ (pair_at pairs k).1 ∷ [] → IsLast pairs (pair_at pairs k).0 k to → IsCollected pairs x next row → IsCollected pairs x to new
collect_more pairs x next k to row new is e l c =
    let key : (pair_at pairs k).0 ≡ x = c.here k (sym is) in
    let w = c.within in
    let u = l.within in
    record {
      within = omega (arith, w, u, is);
      here = λ j f. l.here j f ∙ key;
      told = λ n. (
        λ h. elim (Contains-push_cases row (pair_at pairs k).1 n (subst (λ r. Contains r n) e h)) [
          | inl before ↦ (let (j, le, lt, a, b) = (c.told n).0 before in (j, omega (arith, le, u, is), lt, a, b))
          | inr now ↦ (k, omega (arith, u), omega (arith, w, is), key, now)
        ],
        λ (j, le, lt, a, b). subst (λ r. Contains r n) (sym e) (elim (three j k) [
          | inl above ↦ Contains-append_left row ((pair_at pairs k).1 ∷ []) n ((c.told n).1 (j, omega (arith, above, is), lt, a, b))
          | inr (inl same) ↦ subst (Contains (row ++ (pair_at pairs k).1 ∷ [])) (ap (λ j. (pair_at pairs j).1) (sym same) ∙ b) (Contains-push row (pair_at pairs k).1)
          | inr (inr below) ↦ absurd (l.none j le below (a ∙ sym key))
        ]),
      );
    }
  where
    three : (a b : ℕ) → (b < a) ⊎ ((a ≡ b) ⊎ (a < b))
    three a b = grind arith

pub collect_step : (pairs : List (ℕ × ℕ)) (x next index : ℕ) (last before row new : List ℕ) → 0 < next → AreLinks pairs (length pairs) last before → index ≡ get_or before (next - 1) index → new ≡ row ++ (pair_at pairs (next - 1)).1 ∷ [] →
    IsCollected pairs x next row → IsCollected pairs x index new
collect_step pairs x next index last before row new some links is e c =
    let w = c.within in
    let s = links.sized in
    let at : index ≡ slice_index before (next - 1) = is ∙ get_or_default before (next - 1) index 0 (omega (arith, some, w, s)) in
    collect_more pairs x next (next - 1) index row new (omega (arith, some)) e
    (subst (IsLast pairs (pair_at pairs (next - 1)).0 (next - 1)) (sym at) (links.before_of (next - 1) (omega (arith, some, w)))) c

pub collected_rows : (count : ℕ) (pairs : List (ℕ × ℕ)) (rows : List (List ℕ)) → length rows ≡ count → ((x : ℕ) → x < count → (n : ℕ) → Contains (row_at rows x) n ↔ HasFrom pairs x 0 n) → HasSameRows (gathered count pairs) rows
collected_rows count pairs rows long each = record {
  same_length = long ∙ sym (gathered_long count pairs);
  same = λ x n. elim (apart x count) [
    | inl lt ↦ (λ h. row_to count pairs x n lt ((each x lt n).0 h), λ h. (each x lt n).1 (row_from count pairs x n h).1)
    | inr le ↦ (
      λ h. absurd (Contains-none n (subst (λ l. Contains l n) (get_or-eq_default rows [] (omega (arith, le, long))) h)),
      λ h. absurd (Contains-none n (subst (λ l. Contains l n) (gathered_past count pairs x le) h)),
    )
  ];
}
  where
    apart : (a b : ℕ) → (a < b) ⊎ (b ≤ a)
    apart a b = grind arith
