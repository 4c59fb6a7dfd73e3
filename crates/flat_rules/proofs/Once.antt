-- Lists of which no two elements are the same, by recursion.
use Rattle.std.proofs.Common.{◌≡◌, ℕ, zero, suc, Bool, true, false, cond, List, [], ◌∷◌, ◌⊎◌, inl, inr, refl, arith}
use Rattle.finite_sets.proofs.Members.{once_append, Among, Once}
use Rattle.grammar_model.specs.Simple.{numbers}
use Rattle.grammar_model.proofs.Simple.{among_numbers_from}

-- ---- filters

among_kept : {X : Type 0} (b : Bool) (x z : X) (xs : List X) → Among z (cond b (x ∷ xs) xs) → ((b ≡ true) × (x ≡ z)) ⊎ Among z xs
among_kept true x z xs (inl e) = inl (refl, e)
among_kept true x z xs (inr m) = inr m
among_kept false x z xs m = inr m

keep_more : {X : Type 0} (b : Bool) (x z : X) (xs : List X) → Among z xs → Among z (cond b (x ∷ xs) xs)
keep_more true x z xs m = inr m
keep_more false x z xs m = m

keep_first : {X : Type 0} (b : Bool) (x : X) (xs : List X) → b ≡ true → Among x (cond b (x ∷ xs) xs)
keep_first true x xs e = inl refl
keep_first false x xs e = cc

keep_once : {X : Type 0} (b : Bool) (x : X) (xs : List X) → (Among x xs → ⊥) → Once xs → Once (cond b (x ∷ xs) xs)
keep_once true x xs other h = (other, h)
keep_once false x xs other h = h

-- ---- the numbers below one

pub once_numbers : (n : ℕ) → Once (numbers n)
once_numbers zero = tt
once_numbers (suc n) = once_append (numbers n) (n ∷ []) (once_numbers n) ((λ m. m), tt) (λ x a b. elim b [ inl e ↦ (let lt = among_numbers_from n x a in omega arith) | inr m ↦ absurd m ])
