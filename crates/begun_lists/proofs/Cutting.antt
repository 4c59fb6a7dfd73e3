-- Parts of lists, and clauses of results.
use Rattle.std.proofs.Common.{◌≡◌, ◌≢◌, ℕ, ◌+◌, ◌++◌, List, [], ◌∷◌, take, slice_get, Some, Contains, sym, ap, ◌∙◌, arith}
use Rattle.std.specs.Prelude.{AllPairs}
use Rattle.std.proofs.lemmas.List.{take-append-le, take_more}
use Rattle.finite_sets.proofs.Lists.{taken_at, got_at}

-- no value of a list stands before itself
pub not_before : {X : Type 0} (xs : List X) (k : ℕ) (x : X) → AllPairs (λ a b. a ≢ b) xs → Some x ≡ slice_get xs k → Contains (take k xs) x → ⊥
not_before xs k x once at h =
    let (n, before, e) = taken_at k xs x h in
    let (lt, there) = got_at xs k x x at in
    let (low, here) = got_at xs n x x (sym e) in
    once n k x before lt (here ∙ sym there)

pub take_next : {X : Type 0} (xs more : List X) (k : ℕ) (x : X) → Some x ≡ slice_get xs k → take (k + 1) (xs ++ more) ≡ take k xs ++ x ∷ []
take_next xs more k x at =
    let (lt, there) = got_at xs k x x at in
    take-append-le (k + 1) xs more (omega (arith, lt)) ∙ (take_more xs k x lt ∙ ap (λ z. take k xs ++ z ∷ []) there)
