-- Layers that grow by one, and their end.
use Rattle.std.proofs.Common.{arith, ◌≡◌, ◌⊎◌, inl, inr, ℕ, zero, suc, ◌+◌, ◌-◌, ◌<◌, ◌≤◌, List, [], ◌∷◌, ◌++◌, length, Contains, All, get_or, slice_index, refl, sym, ◌∙◌, ap, subst, length-append}
use Rattle.std.proofs.lemmas.List.{get_or_append_left, get_or-append_right, get_or_push, get_or_default}
use Rattle.std.proofs.lemmas.List.Elements.{Contains-get_or}
use Rattle.std.proofs.lemmas.Bool.{cases_lt}
use Rattle.finite_sets.proofs.Lists.{Contains-none}
use Rattle.grammar_check.specs.Links.{Step, Walks, Gains, StepsInto, AreRows, AreLayers}
use Rattle.grammar_check.proofs.Gaining.{gains_cases}

pub contains_at : (xs : List ℕ) (j x : ℕ) → j < length xs → slice_index xs j ≡ x → Contains xs x
contains_at xs j x lt e = subst (Contains xs) e (Contains-get_or xs j 0 lt)

pub at_contained : (xs : List ℕ) (x : ℕ) → Contains xs x → (j : ℕ) × (j < length xs) × (slice_index xs j ≡ x)
at_contained xs x (j, lt, e) = (j, lt, get_or_default xs j 0 x lt ∙ e)

pub step_known : (rows : List (List ℕ)) (floors : List ℕ) (x t : ℕ) → AreRows (length floors) rows → Step rows floors x t → x < length floors
step_known rows floors x t known (h, there, (a, b)) = let k = known t h there in omega (arith, k, b)

pub all_known : (old new : List ℕ) (P : ℕ → Type 0) (bound : ℕ) → Gains old new P → ((x : ℕ) → P x → x < bound) → All (λ x. x < bound) old → All (λ x. x < bound) new
all_known old new P bound g small all k d lt = elim (gains_cases old new P g (get_or new k d) (Contains-get_or new k d lt)) [
  | inl (j, jl, e) ↦ subst (λ y. y < bound) e (all j (get_or new k d) jl)
  | inr p ↦ small (get_or new k d) p
]

-- the first layer
pub layers_first : (rows : List (List ℕ)) (floors : List ℕ) (to : ℕ) (keys : List ℕ) → Gains [] keys (λ x. Step rows floors x to) → AreLayers rows floors to keys (0 ∷ length keys ∷ [])
layers_first rows floors to keys g = record {
  begin = refl;
  rising = λ n lt. by n (λ m. slice_index (0 ∷ length keys ∷ []) m ≤ slice_index (0 ∷ length keys ∷ []) (suc m)) (omega arith) lt;
  within = λ n lt. small n lt;
  sound = λ n j lt. by n (λ m. slice_index (0 ∷ length keys ∷ []) m ≤ j → j < slice_index (0 ∷ length keys ∷ []) (suc m) → Walks rows floors to (suc m) (slice_index keys j)) (λ a b. (to, step j b, refl)) lt;
  least = λ n j m lt a b w. omega arith;
  complete = λ n x lt. by n (λ m. Walks rows floors to (suc m) x → (j : ℕ) × (j < slice_index (0 ∷ length keys ∷ []) (suc m)) × (slice_index keys j ≡ x))
      (λ (t, s, e). at_contained keys x (g.has x (subst (Step rows floors x) e s))) lt;
}
  where
    by : (n : ℕ) (P : ℕ → Type 0) → P 0 → suc n < 2 → P n
    by zero P p lt = p
    by (suc n) P p lt = absurd (omega arith)

    small : (n : ℕ) → n < 2 → slice_index (0 ∷ length keys ∷ []) n ≤ length keys
    small zero lt = omega arith
    small (suc zero) lt = omega arith
    small (suc (suc n)) lt = absurd (omega arith)

    step : (j : ℕ) → j < length keys → Step rows floors (slice_index keys j) to
    step j lt = elim (gains_cases [] keys (λ x. Step rows floors x to) g (slice_index keys j) (Contains-get_or keys j 0 lt)) [
      | inl none ↦ absurd (Contains-none (slice_index keys j) none)
      | inr s ↦ s
    ]

module _ (rows : List (List ℕ)) (floors : List ℕ) (to : ℕ) (keys starts : List ℕ) (l : AreLayers rows floors to keys starts) where
  -- the layer of a place
  pub locate : (n i : ℕ) → n < length starts → i < slice_index starts n → (p : ℕ) × (p < n) × (slice_index starts p ≤ i) × (i < slice_index starts (suc p))
  locate zero i lt small = absurd (omega (arith, l.begin, small))
  locate (suc n) i lt small = elim (cases_lt i (slice_index starts n)) [
    | inl low ↦ let (p, a, b, d) = locate n i (omega arith) low in (p, omega (arith, a), b, d)
    | inr up ↦ (n, omega arith, up, small)
  ]

  module _ (n : ℕ) (size : length starts ≡ suc (suc n)) (top : slice_index starts (suc n) ≡ length keys) where
    -- from a place that is not in the last layer
    before_last : (i x : ℕ) → i < slice_index starts n → Step rows floors x (slice_index keys i) → (j : ℕ) × (j < length keys) × (slice_index keys j ≡ x)
    before_last i x small s =
        let (p, a, b, d) = locate n i (omega arith) small in
        let w = l.sound p i (omega arith) b d in
        let (j, jl, e) = l.complete (suc p) x (omega arith) (slice_index keys i, s, w) in
        let z = l.within (suc (suc p)) (omega arith) in
        (j, omega (arith, jl, z), e)

    -- an empty layer ends it
    pub layers_closed : slice_index starts n ≡ length keys → (m x : ℕ) → Walks rows floors to (suc m) x → Contains keys x
    layers_closed empty zero x w =
        let (j, jl, e) = l.complete 0 x (omega arith) w in
        let z = l.within 1 (omega arith) in
        contains_at keys j x (omega (arith, jl, z)) e
    layers_closed empty (suc m) x (t, s, w) =
        let (i, il, e) = at_contained keys t (layers_closed empty m t w) in
        let (j, jl, e') = before_last i x (omega (arith, il, empty)) (subst (Step rows floors x) (sym e) s) in
        contains_at keys j x jl e'

    module _ (new : List ℕ) (g : Gains keys new (StepsInto rows floors keys (slice_index starts n) (length keys))) where
      more_long : length new ≡ length keys + length g.more
      more_long = ap length g.extends ∙ length-append keys g.more

      low : (j : ℕ) → j < length keys → slice_index new j ≡ slice_index keys j
      low j lt = ap (λ l. get_or l j 0) g.extends ∙ get_or_append_left keys g.more 0 j lt

      high : (j : ℕ) → length keys ≤ j → j < length new → Contains g.more (slice_index new j)
      high j le lt = subst (Contains g.more) (sym (ap (λ l. get_or l j 0) g.extends ∙ get_or-append_right keys g.more (length keys) j 0 refl le)) (Contains-get_or g.more (j - length keys) 0 (omega (arith, more_long)))

      old_at : (m : ℕ) → m < length starts → slice_index (starts ++ length new ∷ []) m ≡ slice_index starts m
      old_at m lt = get_or_append_left starts (length new ∷ []) 0 m lt

      new_at : slice_index (starts ++ length new ∷ []) (suc (suc n)) ≡ length new
      new_at = get_or_push starts (length new) 0 (suc (suc n)) size

      size_new : length (starts ++ length new ∷ []) ≡ suc (suc (suc n))
      size_new = length-append starts (length new ∷ []) ∙ (let z : length starts + 1 ≡ suc (suc (suc n)) = omega (arith, size) in z)

      -- of layers, the old ones and the new one
      split : (m : ℕ) → suc m < length (starts ++ length new ∷ []) → (suc m < length starts) ⊎ (m ≡ suc n)
      split m lt = grind (arith, size_new, size)

      at : (m : ℕ) → suc m < length (starts ++ length new ∷ []) → slice_index (starts ++ length new ∷ []) m ≡ slice_index starts m
      at m lt = old_at m (omega (arith, lt, size_new, size))

      least : (m j q : ℕ) → m ≤ suc n → slice_index starts m ≤ j → j < length new → Walks rows floors to (suc q) (slice_index new j) → m ≤ q
      least m j q le from lt w = elim (cases_lt j (length keys)) [
        | inl old ↦ elim (cases_lt m (suc n)) [
          | inl small ↦ l.least m j q (omega (arith, size, small)) from old (subst (λ x. Walks rows floors to (suc q) x) (low j old) w)
          | inr big ↦ let e : m ≡ suc n = omega (arith, le, big) in absurd (omega (arith, old, from, top, ap (slice_index starts) e))
        ]
        | inr up ↦ elim (cases_lt q m) [
          | inl less ↦
              let (i, il, e) = l.complete q (slice_index new j) (omega (arith, size, less, le)) w in
              let z = l.within (suc q) (omega (arith, size, less, le)) in
              absurd (g.fresh (slice_index new j) (high j up lt) (contains_at keys i (slice_index new j) (omega (arith, il, z)) e))
          | inr ok ↦ ok
        ]
      ]

      pub layers_more : AreLayers rows floors to new (starts ++ length new ∷ [])
      layers_more = record {
        begin = old_at 0 (omega arith) ∙ l.begin;
        rising = λ m lt. elim (split m lt) [
          | inl old ↦ let r = l.rising m old in omega (arith, r, old_at m (omega (arith, old)), old_at (suc m) old)
          | inr e ↦ omega (arith, at m lt, ap (slice_index starts) e, top, new_at, ap (λ m. slice_index (starts ++ length new ∷ []) (suc m)) e, more_long)
        ];
        within = λ m lt. elim (cases_lt m (length starts)) [
          | inl old ↦ let r = l.within m old in omega (arith, r, old_at m old, more_long)
          | inr e ↦ let is : m ≡ suc (suc n) = omega (arith, e, lt, size_new, size) in omega (arith, ap (slice_index (starts ++ length new ∷ [])) is, new_at)
        ];
        sound = λ m j lt from below. elim (split m lt) [
          | inl old ↦
              let z = l.within (suc m) old in
              let small : j < slice_index starts (suc m) = omega (arith, below, old_at (suc m) old) in
              subst (λ x. Walks rows floors to (suc m) x) (sym (low j (omega (arith, small, z)))) (l.sound m j old (omega (arith, from, at m lt)) small)
          | inr e ↦
              let up : length keys ≤ j = omega (arith, from, at m lt, ap (slice_index starts) e, top) in
              let lt' : j < length new = omega (arith, below, ap (λ m. slice_index (starts ++ length new ∷ []) (suc m)) e, new_at) in
              let (i, il, ib, s) = g.only (slice_index new j) (high j up lt') in
              subst (λ m. Walks rows floors to (suc m) (slice_index new j)) (sym e) (slice_index keys i, s, l.sound n i (omega (arith, size)) il (omega (arith, ib, top)))
        ];
        least = λ m j q lt from small w. least m j q (omega (arith, lt, size_new)) (omega (arith, from, at m lt)) small w;
        complete = λ m x lt w. elim (split m lt) [
          | inl old ↦
              let (j, jl, e) = l.complete m x old w in
              let z = l.within (suc m) old in
              (j, omega (arith, jl, old_at (suc m) old), low j (omega (arith, jl, z)) ∙ e)
          | inr e ↦ subst (λ m. (j : ℕ) × (j < slice_index (starts ++ length new ∷ []) (suc m)) × (slice_index new j ≡ x)) (sym e) (last x (subst (λ m. Walks rows floors to (suc m) x) e w))
        ];
      }
        where
          last : (x : ℕ) → Walks rows floors to (suc (suc n)) x → (j : ℕ) × (j < slice_index (starts ++ length new ∷ []) (suc (suc n))) × (slice_index new j ≡ x)
          last x (t, s, w) =
              let (i, il, e) = l.complete n t (omega (arith, size)) w in
              let s' = subst (Step rows floors x) (sym e) s in
              let (j, jl, e') : (j : ℕ) × (j < length new) × (slice_index new j ≡ x) = elim (cases_lt i (slice_index starts n)) [
                | inl before ↦ let (j, jl, e') = before_last i x before s' in (j, omega (arith, jl, more_long), low j jl ∙ e')
                | inr here ↦ at_contained new x (g.has x (i, here, omega (arith, il, top), s'))
              ] in
              (j, omega (arith, jl, new_at), e')

-- one turn of the search, from the starts of all layers but the last
module _ (rows : List (List ℕ)) (floors : List ℕ) (to : ℕ) (keys starts : List ℕ) (n from : ℕ) (l : AreLayers rows floors to keys (starts ++ length keys ∷ [])) (size : length starts ≡ n + 1) (is : from ≡ get_or starts n from) where
  abbrev ended : List ℕ
  ended = starts ++ length keys ∷ []

  ended_size : length ended ≡ suc (suc n)
  ended_size = length-append starts (length keys ∷ []) ∙ (let z : length starts + 1 ≡ suc (suc n) = omega (arith, size) in z)

  at_from : slice_index ended n ≡ from
  at_from = get_or_append_left starts (length keys ∷ []) 0 n (omega (arith, size)) ∙ (get_or_default starts n 0 from (omega (arith, size)) ∙ sym is)

  at_end : slice_index ended (suc n) ≡ length keys
  at_end = get_or_push starts (length keys) 0 (suc n) (omega (arith, size))

  pub turn_order : from ≤ length keys
  turn_order = let r = l.rising n (omega (arith, ended_size)) in omega (arith, r, at_from, at_end)

  pub turn_closed : from ≡ length keys → (m x : ℕ) → Walks rows floors to (suc m) x → Contains keys x
  turn_closed e = layers_closed rows floors to keys ended l n ended_size at_end (at_from ∙ e)

  pub turn_more : (new : List ℕ) → Gains keys new (StepsInto rows floors keys from (length keys)) → AreLayers rows floors to new (ended ++ length new ∷ [])
  turn_more new g = layers_more rows floors to keys ended l n ended_size at_end new (subst (λ m. Gains keys new (StepsInto rows floors keys m (length keys))) (sym at_from) g)
