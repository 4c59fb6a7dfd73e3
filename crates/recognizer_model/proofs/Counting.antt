-- Lists of exactly the values with a property, and how many there are.
use Rattle.std.proofs.Common.{◌≡◌, ℕ, ◌≤◌, List, length, arith}
use Rattle.finite_sets.proofs.Members.{Among, Once, among_from, contains_from, once_pairs, pairs_once, once_most}
use Rattle.recognizer_model.specs.Counts.{IsListOf, IsCountOf}

-- a list of distinct values that has exactly those
pub list_is : {X : Type 0} (P : X → Type 0) (xs : List X) → Once xs → ((x : X) → Among x xs → P x) → ((x : X) → P x → Among x xs) → IsListOf P xs
list_is P xs once from to = record { once = once_pairs xs once; exact = λ x. ((λ c. from x (among_from xs x c)), (λ p. contains_from xs x (to x p))) }

-- there is one count only
pub one_count : {X : Type 0} (P : X → Type 0) (m n : ℕ) → IsCountOf P m → IsCountOf P n → m ≡ n
one_count {X} P m n (xs, x, long) (ys, y, long') =
    let a = most xs ys x y in
    let b = most ys xs y x in
    omega (arith, a, b, long, long')
  where
    most : (us vs : List X) → IsListOf P us → IsListOf P vs → length us ≤ length vs
    most us vs u v = once_most us vs (pairs_once us u.once) (λ z m. among_from vs z ((v.exact z).1 ((u.exact z).0 (contains_from us z m))))
