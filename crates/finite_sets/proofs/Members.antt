-- Members of lists, and searches among them.
use Rattle.std.proofs.Common.{arith, ◌≡◌, ◌≢◌, ◌⊎◌, inl, inr, ℕ, zero, suc, ◌<◌, ◌≤◌, Bool, true, false, cond, true≢false, filter, List, [], ◌∷◌, ◌++◌, map, length, sym, ◌∙◌, ap, subst, refl, Contains, AllPairs, flat_map, slice_index_or}
use Rattle.finite_sets.specs.Decided.{IsDecided}
use Rattle.finite_sets.proofs.Deciding.{both, one_of, moved}

-- x is an element, by recursion
abbrev pub Among : {X : Type 0} → X → List X → Type 0
Among x [] = ⊥
Among x (y ∷ ys) = (y ≡ x) ⊎ Among x ys

pub among_from : {X : Type 0} (xs : List X) (x : X) → Contains xs x → Among x xs
among_from [] x (k, lt, e) = absurd (omega arith)
among_from (y ∷ ys) x (zero, lt, e) = inl e
among_from (y ∷ ys) x (suc k, lt, e) = inr (among_from ys x (k, omega arith, e))

pub contains_from : {X : Type 0} (xs : List X) (x : X) → Among x xs → Contains xs x
contains_from [] x h = absurd h
contains_from (y ∷ ys) x (inl e) = (0, omega arith, e)
contains_from (y ∷ ys) x (inr h) = let c = contains_from ys x h in (suc c.0, omega arith, c.2)

pub among_left : {X : Type 0} (x : X) (xs ys : List X) → Among x xs → Among x (xs ++ ys)
among_left x [] ys h = absurd h
among_left x (y ∷ xs) ys (inl e) = inl e
among_left x (y ∷ xs) ys (inr h) = inr (among_left x xs ys h)

pub among_right : {X : Type 0} (x : X) (xs ys : List X) → Among x ys → Among x (xs ++ ys)
among_right x [] ys h = h
among_right x (y ∷ xs) ys h = inr (among_right x xs ys h)

pub among_either : {X : Type 0} (x : X) (xs ys : List X) → Among x (xs ++ ys) → Among x xs ⊎ Among x ys
among_either x [] ys h = inr h
among_either x (y ∷ xs) ys (inl e) = inl (inl e)
among_either x (y ∷ xs) ys (inr h) = elim (among_either x xs ys h) [ inl m ↦ inl (inr m) | inr m ↦ inr m ]

pub among_map : {X Y : Type 0} (f : X → Y) (x : X) (xs : List X) → Among x xs → Among (f x) (map f xs)
among_map f x [] h = absurd h
among_map f x (y ∷ ys) (inl e) = inl (ap f e)
among_map f x (y ∷ ys) (inr h) = inr (among_map f x ys h)

pub among_map_from : {X Y : Type 0} (f : X → Y) (y : Y) (xs : List X) → Among y (map f xs) → (x : X) × Among x xs × (f x ≡ y)
among_map_from f y [] h = absurd h
among_map_from f y (x ∷ xs) (inl e) = (x, inl refl, e)
among_map_from f y (x ∷ xs) (inr h) = let r = among_map_from f y xs h in (r.0, inr r.1, r.2)

pub among_flat_map : {X Y : Type 0} (f : X → List Y) (x : X) (y : Y) (xs : List X) → Among x xs → Among y (f x) → Among y (flat_map f xs)
among_flat_map f x y [] h k = absurd h
among_flat_map f x y (z ∷ zs) (inl e) k = among_left y (f z) (flat_map f zs) (subst (λ w. Among y (f w)) (sym e) k)
among_flat_map f x y (z ∷ zs) (inr h) k = among_right y (f z) (flat_map f zs) (among_flat_map f x y zs h k)

pub among_flat_map_from : {X Y : Type 0} (f : X → List Y) (y : Y) (xs : List X) → Among y (flat_map f xs) → (x : X) × Among x xs × Among y (f x)
among_flat_map_from f y [] h = absurd h
among_flat_map_from f y (z ∷ zs) h =
    elim (among_either y (f z) (flat_map f zs) h) [ inl m ↦ (z, inl refl, m) | inr m ↦ (let r = among_flat_map_from f y zs m in (r.0, inr r.1, r.2)) ]

-- the values of a function below a bound
abbrev pub values : {X : Type 0} → (ℕ → X) → ℕ → List X
values f zero = []
values f (suc n) = f n ∷ values f n

pub among_values : {X : Type 0} (f : ℕ → X) (n k : ℕ) → k < n → Among (f k) (values f n)
among_values f zero k lt = absurd (omega arith)
among_values f (suc n) k lt = by (rest f n k lt) (among_values f n k)
  where
    rest : {X : Type 0} (f : ℕ → X) (n k : ℕ) → k < suc n → (f n ≡ f k) ⊎ (k < n)
    rest f n k lt = elim (side n k lt) [ inl e ↦ inl (ap f e) | inr l ↦ inr l ]
      where
        side : (n k : ℕ) → k < suc n → (n ≡ k) ⊎ (k < n)
        side n k lt = grind arith

    by : (f n ≡ f k) ⊎ (k < n) → (k < n → Among (f k) (values f n)) → (f n ≡ f k) ⊎ Among (f k) (values f n)
    by (inl e) ih = inl e
    by (inr l) ih = inr (ih l)

pub among_values_from : {X : Type 0} (f : ℕ → X) (n : ℕ) (x : X) → Among x (values f n) → (k : ℕ) × (k < n) × (f k ≡ x)
among_values_from f zero x m = absurd m
among_values_from f (suc n) x (inl e) = (n, omega arith, e)
among_values_from f (suc n) x (inr m) = let (k, lt, e) = among_values_from f n x m in (k, omega (arith, lt), e)

module _ {X : Type 0} (P : X → Type 0) where
  pub some_among : (xs : List X) → ((x : X) → Among x xs → IsDecided (P x)) → IsDecided ((x : X) × Among x xs × P x)
  some_among [] d = inr (λ h. h.1)
  some_among (x ∷ xs) d = go (d x (inl refl)) (some_among xs (λ y m. d y (inr m)))
    where
      go : IsDecided (P x) → IsDecided ((y : X) × Among y xs × P y) → IsDecided ((y : X) × Among y (x ∷ xs) × P y)
      go (inl p) s = inl (x, inl refl, p)
      go (inr p) (inl (y, m, q)) = inl (y, inr m, q)
      go (inr p) (inr s) = inr (λ (y, m, q). elim m [ inl e ↦ p (subst P (sym e) q) | inr m ↦ s (y, m, q) ])

  pub each_among : (xs : List X) → ((x : X) → Among x xs → IsDecided (P x)) → IsDecided ((x : X) → Among x xs → P x)
  each_among [] d = inl (λ x m. absurd m)
  each_among (x ∷ xs) d = go (d x (inl refl)) (each_among xs (λ y m. d y (inr m)))
    where
      go : IsDecided (P x) → IsDecided ((y : X) → Among y xs → P y) → IsDecided ((y : X) → Among y (x ∷ xs) → P y)
      go (inr p) s = inr (λ all. p (all x (inl refl)))
      go (inl p) (inr s) = inr (λ all. s (λ y m. all y (inr m)))
      go (inl p) (inl s) = inl (λ y m. elim m [ inl e ↦ subst P e p | inr m ↦ s y m ])

module _ {X : Type 0} (same : (x y : X) → IsDecided (x ≡ y)) where
  pub member : (x : X) (xs : List X) → IsDecided (Among x xs)
  member x [] = inr (λ h. h)
  member x (y ∷ ys) = one_of (same y x) (member x ys)

  pub equal_lists : (xs ys : List X) → IsDecided (xs ≡ ys)
  equal_lists [] [] = inl refl
  equal_lists [] (y ∷ ys) = inr (λ e. absurd (cc))
  equal_lists (x ∷ xs) [] = inr (λ e. absurd (cc))
  equal_lists (x ∷ xs) (y ∷ ys) = moved joined parted (both (same x y) (equal_lists xs ys))
    where
      joined : (x ≡ y) × (xs ≡ ys) → x ∷ xs ≡ y ∷ ys
      joined (a, b) = λ i. a i ∷ b i

      parted : x ∷ xs ≡ y ∷ ys → (x ≡ y) × (xs ≡ ys)
      parted e = (cc, cc)

-- ---- lists of which no two elements are the same

abbrev pub Once : {X : Type 0} → List X → Type 0
Once [] = Unit {0}
Once (x ∷ xs) = (Among x xs → ⊥) × Once xs

pub among_at : {X : Type 0} (xs : List X) (k : ℕ) (d : X) → k < length xs → Among (slice_index_or xs k d) xs
among_at [] k d lt = absurd (omega arith)
among_at (x ∷ xs) zero d lt = inl refl
among_at (x ∷ xs) (suc k) d lt = inr (among_at xs k d (omega arith))

pub once_pairs : {X : Type 0} (xs : List X) → Once xs → AllPairs (λ x y. x ≢ y) xs
once_pairs [] h i j d lt within e = omega arith
once_pairs (x ∷ xs) h i zero d lt within e = omega arith
once_pairs (x ∷ xs) h zero (suc j) d lt within e = h.0 (subst (λ z. Among z xs) (sym e) (among_at xs j d (omega arith)))
once_pairs (x ∷ xs) h (suc i) (suc j) d lt within e = once_pairs xs h.1 i j d (omega arith) (omega arith) e

pub pairs_once : {X : Type 0} (xs : List X) → AllPairs (λ x y. x ≢ y) xs → Once xs
pairs_once [] h = tt
pairs_once (x ∷ xs) h = ((λ m. let (k, lt, e) = contains_from xs x m in h 0 (suc k) x (omega arith) (omega (arith, lt)) (sym e)), pairs_once xs (λ i j d lt within. h (suc i) (suc j) d (omega (arith, lt)) (omega (arith, within))))

pub once_append : {X : Type 0} (xs ys : List X) → Once xs → Once ys → ((x : X) → Among x xs → Among x ys → ⊥) → Once (xs ++ ys)
once_append [] ys h k apart = k
once_append (x ∷ xs) ys h k apart =
    ((λ m. elim (among_either x xs ys m) [ inl a ↦ h.0 a | inr a ↦ apart x (inl refl) a ]), once_append xs ys h.1 k (λ y a b. apart y (inr a) b))

pub once_map : {X Y : Type 0} (f : X → Y) (xs : List X) → ((x y : X) → f x ≡ f y → x ≡ y) → Once xs → Once (map f xs)
once_map f [] one h = tt
once_map f (x ∷ xs) one h =
    ((λ m. let (y, a, e) = among_map_from f (f x) xs m in h.0 (subst (λ z. Among z xs) (one y x e) a)), once_map f xs one h.1)

pub once_flat_map : {X Y : Type 0} (f : X → List Y) (xs : List X) → Once xs → ((x : X) → Among x xs → Once (f x)) →
    ((x z : X) (y : Y) → Among x xs → Among z xs → Among y (f x) → Among y (f z) → x ≡ z) → Once (flat_map f xs)
once_flat_map f [] h each one = tt
once_flat_map f (x ∷ xs) h each one =
    once_append (f x) (flat_map f xs) (each x (inl refl)) (once_flat_map f xs h.1 (λ z m. each z (inr m)) (λ z t y m n a b. one z t y (inr m) (inr n) a b))
    (λ y a b. let (z, m, c) = among_flat_map_from f y xs b in h.0 (subst (λ t. Among t xs) (sym (one x z y (inl refl) (inr m) a c)) m))

-- ---- what a test keeps

pub among_filter : {X : Type 0} (test : X → Bool) (x : X) (xs : List X) → Among x xs → test x ≡ true → Among x (filter test xs)
among_filter test x [] m e = absurd m
among_filter {X} test x (y ∷ ys) m e = go (test y) refl (λ k. among_filter test x ys k e) m
  where
    go : (b : Bool) → test y ≡ b → (Among x ys → Among x (filter test ys)) → (y ≡ x) ⊎ Among x ys → Among x (cond b (y ∷ filter test ys) (filter test ys))
    go true is ih (inl same) = inl same
    go true is ih (inr k) = inr (ih k)
    go false is ih (inl same) = absurd (true≢false (sym e ∙ ap test (sym same) ∙ is))
    go false is ih (inr k) = ih k

pub among_filter_from : {X : Type 0} (test : X → Bool) (x : X) (xs : List X) → Among x (filter test xs) → Among x xs × (test x ≡ true)
among_filter_from test x [] m = absurd m
among_filter_from {X} test x (y ∷ ys) m = go (test y) refl (λ k. among_filter_from test x ys k) m
  where
    go : (b : Bool) → test y ≡ b → (Among x (filter test ys) → Among x ys × (test x ≡ true)) → Among x (cond b (y ∷ filter test ys) (filter test ys)) → Among x (y ∷ ys) × (test x ≡ true)
    go true is ih (inl same) = (inl same, ap test (sym same) ∙ is)
    go true is ih (inr k) = let (a, e) = ih k in (inr a, e)
    go false is ih k = let (a, e) = ih k in (inr a, e)

pub once_filter : {X : Type 0} (test : X → Bool) (xs : List X) → Once xs → Once (filter test xs)
once_filter test [] h = tt
once_filter {X} test (x ∷ xs) h = go (test x) (once_filter test xs h.1)
  where
    go : (b : Bool) → Once (filter test xs) → Once (cond b (x ∷ filter test xs) (filter test xs))
    go true ih = ((λ m. h.0 (among_filter_from test x xs m).0), ih)
    go false ih = ih

-- ---- lists without an element, and of those that are decided

-- a list without one of its elements
pub without : {X : Type 0} (x : X) (xs : List X) → Among x xs →
    (ys : List X) × (suc (length ys) ≡ length xs) × ((y : X) → Among y xs → (x ≡ y) ⊎ Among y ys) × ((y : X) → Among y ys → Among y xs)
without x [] m = absurd m
without {X} x (z ∷ zs) (inl e) = (zs, omega arith, parted, λ y m. inr m)
  where
    parted : (y : X) → Among y (z ∷ zs) → (x ≡ y) ⊎ Among y zs
    parted y (inl f) = inl (sym e ∙ f)
    parted y (inr m) = inr m
without {X} x (z ∷ zs) (inr m) = by (without x zs m)
  where
    by : (ys : List X) × (suc (length ys) ≡ length zs) × ((y : X) → Among y zs → (x ≡ y) ⊎ Among y ys) × ((y : X) → Among y ys → Among y zs) →
        (ys : List X) × (suc (length ys) ≡ length (z ∷ zs)) × ((y : X) → Among y (z ∷ zs) → (x ≡ y) ⊎ Among y ys) × ((y : X) → Among y ys → Among y (z ∷ zs))
    by (ys, e, parted, back) = (z ∷ ys, omega (arith, e), parted', back')
      where
        parted' : (y : X) → Among y (z ∷ zs) → (x ≡ y) ⊎ Among y (z ∷ ys)
        parted' y (inl f) = inr (inl f)
        parted' y (inr n) = elim (parted y n) [ inl f ↦ inl f | inr k ↦ inr (inr k) ]

        back' : (y : X) → Among y (z ∷ ys) → Among y (z ∷ zs)
        back' y (inl f) = inl f
        back' y (inr n) = inr (back y n)

-- elements that are each there once are no more than those of a list that has them all
pub once_most : {X : Type 0} (xs ys : List X) → Once xs → ((x : X) → Among x xs → Among x ys) → length xs ≤ length ys
once_most [] ys once inside = omega arith
once_most (x ∷ xs) ys (fresh, once) inside =
    let (zs, shorter, parted, back) = without x ys (inside x (inl refl)) in
    let le = once_most xs zs once (λ y m. elim (parted y (inside y (inr m))) [ inl same ↦ absurd (fresh (subst (λ z. Among z xs) (sym same) m)) | inr there ↦ there ]) in
    omega (arith, le, shorter)

-- the elements of which P holds, each once
module _ {X : Type 0} (P : X → Type 0) (same : (x y : X) → IsDecided (x ≡ y)) where
  abbrev Listed : List X → List X → Type 0
  Listed xs ys = Once ys × ((x : X) → Among x ys → Among x xs × P x) × ((x : X) → Among x xs → P x → Among x ys)

  pub listed : (xs : List X) → ((x : X) → Among x xs → IsDecided (P x)) → (ys : List X) × Listed xs ys
  listed [] d = ([], (tt, (λ x m. absurd m), (λ x m p. m)))
  listed (x ∷ xs) d = go (d x (inl refl)) (listed xs (λ y m. d y (inr m)))
    where
      drop : (ys : List X) → Listed xs ys → (P x → Among x ys) → Listed (x ∷ xs) ys
      drop ys (once, is, all) there = (once, (λ y m. let h = is y m in (inr h.0, h.1)), (λ y m p. elim m [ inl e ↦ subst (λ z. Among z ys) e (there (subst P (sym e) p)) | inr m ↦ all y m p ]))

      keep : (ys : List X) → Listed xs ys → P x → (Among x ys → ⊥) → Listed (x ∷ xs) (x ∷ ys)
      keep ys (once, is, all) p fresh = ((fresh, once), is', all')
        where
          is' : (y : X) → Among y (x ∷ ys) → Among y (x ∷ xs) × P y
          is' y (inl e) = (inl e, subst P e p)
          is' y (inr m) = let h = is y m in (inr h.0, h.1)

          all' : (y : X) → Among y (x ∷ xs) → P y → Among y (x ∷ ys)
          all' y (inl e) q = inl e
          all' y (inr m) q = inr (all y m q)

      go : IsDecided (P x) → (ys : List X) × Listed xs ys → (ys : List X) × Listed (x ∷ xs) ys
      go (inr p) (ys, l) = (ys, drop ys l (λ q. absurd (p q)))
      go (inl p) (ys, l) = elim (member same x ys) [ inl m ↦ (ys, drop ys l (λ q. m)) | inr fresh ↦ (x ∷ ys, keep ys l p fresh) ]
