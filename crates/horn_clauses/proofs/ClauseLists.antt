-- Lists of clauses, from their heads and their bodies.
use Rattle.std.proofs.Common.{arith, ◌≡◌, ℕ, zero, suc, List, [], ◌∷◌, ◌++◌, length, slice_index, refl, ap}
use Rattle.horn_clauses.specs.Least.{Clause, clause_at, clauses_of}
use Rattle.jagged.specs.Rows.{row_at}

pub clauses_long : (heads : List ℕ) (bodies : List (List ℕ)) → length heads ≡ length bodies → length (clauses_of heads bodies) ≡ length heads
clauses_long [] bodies e = refl
clauses_long (h ∷ heads) [] e = absurd (omega (arith, e))
clauses_long (h ∷ heads) (b ∷ bodies) e = ap suc (clauses_long heads bodies (omega (arith, e)))

pub head_is : (heads : List ℕ) (bodies : List (List ℕ)) (i : ℕ) → length heads ≡ length bodies → (clause_at (clauses_of heads bodies) i).head ≡ slice_index heads i
head_is [] bodies i e = refl
head_is (h ∷ heads) [] i e = absurd (omega (arith, e))
head_is (h ∷ heads) (b ∷ bodies) zero e = refl
head_is (h ∷ heads) (b ∷ bodies) (suc i) e = head_is heads bodies i (omega (arith, e))

pub body_is : (heads : List ℕ) (bodies : List (List ℕ)) (i : ℕ) → length heads ≡ length bodies → row_at bodies i ≡ (clause_at (clauses_of heads bodies) i).body
body_is [] [] i e = refl
body_is [] (b ∷ bodies) i e = absurd (omega (arith, e))
body_is (h ∷ heads) [] i e = absurd (omega (arith, e))
body_is (h ∷ heads) (b ∷ bodies) zero e = refl
body_is (h ∷ heads) (b ∷ bodies) (suc i) e = body_is heads bodies i (omega (arith, e))

pub clauses_more : (heads : List ℕ) (bodies : List (List ℕ)) (head : ℕ) (body : List ℕ) → length heads ≡ length bodies →
    clauses_of (heads ++ head ∷ []) (bodies ++ body ∷ []) ≡ clauses_of heads bodies ++ record { head = head; body = body } ∷ []
clauses_more [] [] head body e = refl
clauses_more [] (b ∷ bodies) head body e = absurd (omega (arith, e))
clauses_more (h ∷ heads) [] head body e = absurd (omega (arith, e))
clauses_more (h ∷ heads) (b ∷ bodies) head body e = ap (λ (cs : List Clause). record { head = h; body = b } ∷ cs) (clauses_more heads bodies head body (omega (arith, e)))
