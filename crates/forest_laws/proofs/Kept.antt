-- What a test keeps of a list that is made of others.
use Rattle.std.proofs.Common.{◌≡◌, Bool, true, false, cond, List, [], ◌∷◌, ◌++◌, map, refl, ap, ◌∙◌}
use Rattle.std.specs.Prelude.{◌&&◌, filter}
use Rattle.std.specs.List.{flat_map}
use Rattle.std.proofs.lemmas.List.Elements.{filter-append}

pub kept_flat : {X Y : Type 0} (test : Y → Bool) (f : X → List Y) (xs : List X) → filter test (flat_map f xs) ≡ flat_map (λ x. filter test (f x)) xs
kept_flat test f [] = refl
kept_flat test f (x ∷ xs) = filter-append test (f x) (flat_map f xs) ∙ ap (λ l. filter test (f x) ++ l) (kept_flat test f xs)

-- of elements that are made of one thing and another, all or none have the one
pub kept_map : {X Y : Type 0} (test : Y → Bool) (b : Bool) (rest : X → Bool) (f : X → Y) → ((x : X) → test (f x) ≡ (b && rest x)) → (xs : List X) → filter test (map f xs) ≡ cond b (map f (filter rest xs)) []
kept_map test true rest f e [] = refl
kept_map test false rest f e [] = refl
kept_map {X} {Y} test true rest f e (x ∷ xs) = ap (λ b. cond b (f x ∷ filter test (map f xs)) (filter test (map f xs))) (e x) ∙ go (rest x) (kept_map test true rest f e xs)
  where
    go : (b : Bool) → filter test (map f xs) ≡ map f (filter rest xs) → cond b (f x ∷ filter test (map f xs)) (filter test (map f xs)) ≡ map f (cond b (x ∷ filter rest xs) (filter rest xs))
    go true ih = ap (λ l. f x ∷ l) ih
    go false ih = ih
kept_map test false rest f e (x ∷ xs) = ap (λ b. cond b (f x ∷ filter test (map f xs)) (filter test (map f xs))) (e x) ∙ kept_map test false rest f e xs

-- where the test is of what the list is mapped from
pub flat_kept : {X Y : Type 0} (test : X → Bool) (f : X → List Y) (xs : List X) → flat_map (λ x. cond (test x) (f x) []) xs ≡ flat_map f (filter test xs)
flat_kept test f [] = refl
flat_kept {X} {Y} test f (x ∷ xs) = go (test x) (flat_kept test f xs)
  where
    go : (b : Bool) → flat_map (λ x. cond (test x) (f x) []) xs ≡ flat_map f (filter test xs) → cond b (f x) [] ++ flat_map (λ x. cond (test x) (f x) []) xs ≡ flat_map f (cond b (x ∷ filter test xs) (filter test xs))
    go true ih = ap (λ l. f x ++ l) ih
    go false ih = ih
