-- The names of sets, one after the other.
use Rattle.std.proofs.Common.{◌≡◌, ℕ, zero, suc, ◌+◌, ◌<◌, ◌≤◌, [], ◌∷◌, ◌++◌, Some, refl, ap, ◌∙◌, length, take, map, arith}
use Rattle.std.specs.Prelude.{slice_get}
use Rattle.std.proofs.lemmas.List.{map-append, length-map}
use Rattle.language_model.specs.Building.{count_from, set_names}
use Rattle.dsl_build.specs.Lexical.{set_name}
use Rattle.dsl_faults.proofs.Lists.{count_more}
use Rattle.dsl_build.proofs.Ranging.{count_long}

counts_get : (a n k : ℕ) → k < n → slice_get (map set_name (count_from a n)) k ≡ Some (set_name (a + k))
counts_get a zero k lt = absurd (omega (arith, lt))
counts_get a (suc n) zero lt = let e : a ≡ a + 0 = omega arith in ap (λ m. Some (set_name m)) e
counts_get a (suc n) (suc k) lt = let e : a + 1 + k ≡ a + suc k = omega arith in counts_get (a + 1) n k (omega (arith, lt)) ∙ ap (λ m. Some (set_name m)) e

counts_take : (a n k : ℕ) → k ≤ n → take k (map set_name (count_from a n)) ≡ map set_name (count_from a k)
counts_take a n zero le = refl
counts_take a zero (suc k) le = absurd (omega (arith, le))
counts_take a (suc n) (suc k) le = ap (λ ns. set_name a ∷ ns) (counts_take (a + 1) n k (omega (arith, le)))

pub sets_get : (n k : ℕ) → k < n → slice_get (set_names n) k ≡ Some (set_name k)
sets_get n k lt = let e : 0 + k ≡ k = omega arith in counts_get 0 n k lt ∙ ap (λ m. Some (set_name m)) e

pub sets_take : (n k : ℕ) → k ≤ n → take k (set_names n) ≡ set_names k
sets_take n k le = counts_take 0 n k le

pub sets_more : (k : ℕ) → set_names (k + 1) ≡ set_names k ++ set_name k ∷ []
sets_more k = ap (map set_name) (count_more 0 k k (omega arith)) ∙ map-append set_name (count_from 0 k) (k ∷ [])

pub sets_long : (n : ℕ) → length (set_names n) ≡ n
sets_long n = length-map (count_from 0 n) set_name ∙ count_long 0 n
