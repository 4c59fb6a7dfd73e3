-- Lists: what stands at a place, what is taken, what is mapped, and lists that are empty.
use Rattle.std.proofs.Common.{◌≡◌, ◌⊎◌, inl, inr, ℕ, zero, suc, ◌+◌, ◌<◌, ◌≤◌, List, [], ◌∷◌, ◌++◌, map, length, take, flat_map, slice_get, slice_index_or, Some, None, Contains, refl, sym, ap, ◌∙◌, arith}
use Rattle.std.proofs.lemmas.List.{map-append, take-append-le, take-take, length-take-le}
use Rattle.std.proofs.lemmas.Option.{slice_get_past}
use Rattle.std.proofs.lemmas.Grind.{flat_map-append}
use Rattle.finite_sets.proofs.Members.{Among, among_from, contains_from, among_map}

-- ---- what stands at a place

pub get_left : {X : Type 0} (xs ys : List X) (k : ℕ) (x : X) → slice_get xs k ≡ Some x → slice_get (xs ++ ys) k ≡ Some x
get_left [] ys k x e = absurd (cc)
get_left (z ∷ zs) ys zero x e = e
get_left (z ∷ zs) ys (suc k) x e = get_left zs ys k x e

pub get_right : {X : Type 0} (xs ys : List X) (k : ℕ) (x : X) → slice_get ys k ≡ Some x → slice_get (xs ++ ys) (length xs + k) ≡ Some x
get_right [] ys k x e = let z : 0 + k ≡ k = omega arith in ap (slice_get ys) z ∙ e
get_right (y ∷ xs) ys k x e = let z : length (y ∷ xs) + k ≡ suc (length xs + k) = omega arith in ap (slice_get ((y ∷ xs) ++ ys)) z ∙ get_right xs ys k x e

pub get_last : {X : Type 0} (xs : List X) (x : X) → slice_get (xs ++ x ∷ []) (length xs) ≡ Some x
get_last [] x = refl
get_last (y ∷ xs) x = get_last xs x

pub get_pushed : {X : Type 0} (xs : List X) (x : X) (k : ℕ) (y : X) → slice_get (xs ++ x ∷ []) k ≡ Some y → (slice_get xs k ≡ Some y) ⊎ ((k ≡ length xs) × (x ≡ y))
get_pushed [] x zero y e = inr (refl, (let s : x ≡ y = cc in s))
get_pushed [] x (suc k) y e = absurd (cc)
get_pushed (z ∷ zs) x zero y e = inl e
get_pushed (z ∷ zs) x (suc k) y e = elim (get_pushed zs x k y e) [ inl a ↦ inl a | inr (a, b) ↦ inr (ap suc a, b) ]

pub get_some : {X : Type 0} (xs : List X) (k : ℕ) → k < length xs → (x : X) × (slice_get xs k ≡ Some x)
get_some [] k lt = absurd (omega arith)
get_some (x ∷ xs) zero lt = (x, refl)
get_some (x ∷ xs) (suc k) lt = get_some xs k (omega (arith, lt))

pub get_none : {X : Type 0} (xs : List X) (k : ℕ) → slice_get xs k ≡ None → length xs ≤ k
get_none [] k e = omega arith
get_none (x ∷ xs) zero e = absurd (cc)
get_none (x ∷ xs) (suc k) e = let h = get_none xs k e in omega arith

pub get_end : {X : Type 0} (xs : List X) (k : ℕ) → k ≤ length xs → slice_get xs k ≡ None → k ≡ length xs
get_end xs k le e = let h = get_none xs k e in omega (arith, le, h)

pub none_at_end : {X : Type 0} (xs : List X) (k : ℕ) → k ≡ length xs → slice_get xs k ≡ None
none_at_end xs k e = slice_get_past xs k (omega (arith, e))

pub get_index : {X : Type 0} (xs : List X) (k : ℕ) (d x : X) → slice_get xs k ≡ Some x → (k < length xs) × (slice_index_or xs k d ≡ x)
get_index [] k d x e = cc
get_index (y ∷ ys) zero d x e = (omega arith, cc)
get_index (y ∷ ys) (suc k) d x e = let (lt, h) = get_index ys k d x e in (omega arith, h)

pub get_item : {X : Type 0} (xs : List X) (k : ℕ) (x : X) → slice_get xs k ≡ Some x → Contains xs x
get_item xs k x e = let (lt, h) = get_index xs k x x e in (k, lt, h)

-- the same, where the option is told by the element
pub got_at : {X : Type 0} (xs : List X) (k : ℕ) (x d : X) → Some x ≡ slice_get xs k → (k < length xs) × (slice_index_or xs k d ≡ x)
got_at xs k x d e = get_index xs k d x (sym e)

pub got_item : {X : Type 0} (xs : List X) (k : ℕ) (x : X) → Some x ≡ slice_get xs k → Contains xs x
got_item xs k x e = get_item xs k x (sym e)

pub get_among : {X : Type 0} (xs : List X) (k : ℕ) (x : X) → slice_get xs k ≡ Some x → Among x xs
get_among [] k x e = cc
get_among (y ∷ ys) zero x e = let h : y ≡ x = cc in inl h
get_among (y ∷ ys) (suc k) x e = inr (get_among ys k x e)

pub among_get : {X : Type 0} (xs : List X) (x : X) → Among x xs → (k : ℕ) × (slice_get xs k ≡ Some x)
among_get [] x m = absurd m
among_get (y ∷ ys) x (inl e) = (0, ap Some e)
among_get (y ∷ ys) x (inr m) = let (k, h) = among_get ys x m in (suc k, h)

-- ---- what is mapped

pub get_map : {X Y : Type 0} (f : X → Y) (xs : List X) (k : ℕ) (x : X) → slice_get xs k ≡ Some x → slice_get (map f xs) k ≡ Some (f x)
get_map f [] k x e = absurd (cc)
get_map f (y ∷ ys) zero x e = let s : y ≡ x = cc in ap (λ z. Some (f z)) s
get_map f (y ∷ ys) (suc k) x e = get_map f ys k x e

pub get_mapped : {X Y : Type 0} (f : X → Y) (xs : List X) (k : ℕ) (y : Y) → slice_get (map f xs) k ≡ Some y → (x : X) × (slice_get xs k ≡ Some x) × (f x ≡ y)
get_mapped f [] k y e = absurd (cc)
get_mapped f (z ∷ zs) zero y e = (z, refl, (let s : f z ≡ y = cc in s))
get_mapped f (z ∷ zs) (suc k) y e = get_mapped f zs k y e

pub map_same : {X Y : Type 0} (f h : X → Y) → ((x : X) → f x ≡ h x) → (xs : List X) → map f xs ≡ map h xs
map_same f h e [] = refl
map_same f h e (x ∷ xs) =
    let a = e x in
    let b = map_same f h e xs in
    λ i. a i ∷ b i

pub map_flat : {X Y Z : Type 0} (f : X → List Y) (h : Y → Z) (xs : List X) → map h (flat_map f xs) ≡ flat_map (λ x. map h (f x)) xs
map_flat f h [] = refl
map_flat f h (x ∷ xs) = map-append h (f x) (flat_map f xs) ∙ ap (λ l. map h (f x) ++ l) (map_flat f h xs)

pub flat_flat : {X Y Z : Type 0} (f : X → List Y) (h : Y → List Z) (xs : List X) → flat_map h (flat_map f xs) ≡ flat_map (λ x. flat_map h (f x)) xs
flat_flat f h [] = refl
flat_flat f h (x ∷ xs) = flat_map-append h (f x) (flat_map f xs) ∙ ap (λ l. flat_map h (f x) ++ l) (flat_flat f h xs)

pub Contains-none : {X : Type 0} (x : X) → Contains [] x → ⊥
Contains-none x (k, lt, e) = omega (arith, lt)

pub Contains-map : {X Y : Type 0} (f : X → Y) (xs : List X) (x : X) → Contains xs x → Contains (map f xs) (f x)
Contains-map f xs x h = contains_from (map f xs) (f x) (among_map f x xs (among_from xs x h))

-- ---- what is taken

pub take_prefix : {X : Type 0} (n : ℕ) (xs row : List X) → n ≤ length xs → take n (take n xs ++ row) ≡ take n xs
take_prefix n xs row le = take-append-le n (take n xs) row (let l = length-take-le n xs le in omega arith) ∙ take-take n n xs (omega arith)

-- it stands at its number in the list
pub taken_at : {X : Type 0} (n : ℕ) (xs : List X) (x : X) → Contains (take n xs) x → (k : ℕ) × (k < n) × (slice_get xs k ≡ Some x)
taken_at zero xs x h = absurd (Contains-none x h)
taken_at (suc n) [] x h = absurd (Contains-none x h)
taken_at {X} (suc n) (y ∷ ys) x h = go (among_from (y ∷ take n ys) x h) (taken_at n ys x)
  where
    go : (y ≡ x) ⊎ Among x (take n ys) → (Contains (take n ys) x → (k : ℕ) × (k < n) × (slice_get ys k ≡ Some x)) → (k : ℕ) × (k < suc n) × (slice_get (y ∷ ys) k ≡ Some x)
    go (inl e) rest = (0, omega arith, ap Some e)
    go (inr m) rest = let (k, lt, e) = rest (contains_from (take n ys) x m) in (suc k, omega (arith, lt), e)

-- ---- lists that are empty

pub prefix_empty : {X : Type 0} (xs ys : List X) → xs ++ ys ≡ [] → xs ≡ []
prefix_empty [] ys e = refl
prefix_empty (x ∷ xs) ys e = cc

pub back_empty : {X : Type 0} (xs ys : List X) → xs ++ ys ≡ [] → ys ≡ []
back_empty [] ys e = e
back_empty (x ∷ xs) ys e = cc

pub map_empty : {X Y : Type 0} (f : X → Y) (xs : List X) → map f xs ≡ [] → xs ≡ []
map_empty f [] e = refl
map_empty f (x ∷ xs) e = cc
