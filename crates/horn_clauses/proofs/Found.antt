-- What is in a set of numbers, and what it leads to.
use Rattle.std.proofs.Common.{arith, ◌≡◌, ◌⊎◌, inl, inr, ℕ, zero, suc, ◌<◌, ◌≤◌, List, [], ◌∷◌, ◌++◌, length, take, All, Contains, slice_index_or, sym, ◌∙◌, ap, subst, length-append, append-nil}
use Rattle.std.proofs.lemmas.List.{get_or_append_left, get_or_push, take-append-le}
use Rattle.std.proofs.Math.Seq.{take-append_seam}
use Rattle.std.proofs.lemmas.List.Elements.{Contains-append_left, Contains-push, Contains-push_cases}
use Rattle.horn_clauses.specs.Least.{Clause, clause_at, IsDerivedIn, IsMade, Adds, Extends}

pub more_rounds : (n m : ℕ) (cs : List Clause) (x : ℕ) → n ≤ m → IsDerivedIn n cs x → IsDerivedIn m cs x
more_rounds zero m cs x le h = absurd h
more_rounds (suc n) zero cs x le h = absurd (omega arith)
more_rounds (suc n) (suc m) cs x le (i, lt, e, all) = (i, lt, e, λ k d l. more_rounds n m cs (slice_index_or (clause_at cs i).body k d) (omega arith) (all k d l))

-- a number is added whose clause has all of its body in the set
pub adds_derived : (cs : List Clause) (old new : List ℕ) (i : ℕ) → ((x : ℕ) → Contains old x → IsDerivedIn (length old) cs x) → i < length cs → All (Contains old) (clause_at cs i).body → Adds old new (clause_at cs i).head →
    (x : ℕ) → Contains new x → IsDerivedIn (length new) cs x
adds_derived cs old new i derived lt all (inl (e, there)) x h = subst (λ l. IsDerivedIn (length l) cs x) (sym e) (derived x (subst (λ l. Contains l x) e h))
adds_derived cs old new i derived lt all (inr e) x h =
    let long : suc (length old) ≡ length new = omega (arith, ap length e, length-append old ((clause_at cs i).head ∷ [])) in
    subst (λ n. IsDerivedIn n cs x) long (elim (Contains-push_cases old (clause_at cs i).head x (subst (λ l. Contains l x) e h)) [
      | inl before ↦ more_rounds (length old) (suc (length old)) cs x (omega arith) (derived x before)
      | inr now ↦ (i, lt, now, λ k d l. derived (slice_index_or (clause_at cs i).body k d) (all k d l))
    ])

adds_made_at : (cs : List Clause) (old : List ℕ) (x k : ℕ) → k < length old → IsMade cs old k → IsMade cs (old ++ x ∷ []) k
adds_made_at cs old x k below (j, jl, e, body) = (
  j,
  jl,
  e ∙ sym (get_or_append_left old (x ∷ []) 0 k below),
  λ m d ml. subst (λ l. Contains l (slice_index_or (clause_at cs j).body m d)) (sym (take-append-le k old (x ∷ []) (omega arith))) (body m d ml),
)

pub adds_made : (cs : List Clause) (old new : List ℕ) (i : ℕ) → ((k : ℕ) → k < length old → IsMade cs old k) → i < length cs → All (Contains old) (clause_at cs i).body → Adds old new (clause_at cs i).head →
    (k : ℕ) → k < length new → IsMade cs new k
adds_made cs old new i made lt all (inl (e, there)) k below = subst (λ l. IsMade cs l k) (sym e) (made k (omega (arith, below, ap length e)))
adds_made cs old new i made lt all (inr e) k below = subst (λ l. IsMade cs l k) (sym e) (by (le_or k (length old)))
  where
    le_or : (a b : ℕ) → (a < b) ⊎ (b ≤ a)
    le_or a b = grind arith

    by : (k < length old) ⊎ (length old ≤ k) → IsMade cs (old ++ (clause_at cs i).head ∷ []) k
    by (inl low) = adds_made_at cs old (clause_at cs i).head k low (made k low)
    by (inr up) =
        let is : length old ≡ k = omega (arith, up, below, ap length e, length-append old ((clause_at cs i).head ∷ [])) in (
          i,
          lt,
          sym (get_or_push old (clause_at cs i).head 0 k is),
          λ m d ml. subst (λ l. Contains l (slice_index_or (clause_at cs i).body m d)) (sym (ap (λ k. take k (old ++ (clause_at cs i).head ∷ [])) (sym is) ∙ take-append_seam old ((clause_at cs i).head ∷ []))) (all m d ml),
        )

pub adds_extends : (old new : List ℕ) (x : ℕ) → Adds old new x → Extends old new
adds_extends old new x (inl (e, there)) = ([], e ∙ sym (append-nil old))
adds_extends old new x (inr e) = (x ∷ [], e)

pub adds_has : (old new : List ℕ) (x : ℕ) → Adds old new x → Contains new x
adds_has old new x (inl (e, there)) = subst (λ l. Contains l x) (sym e) there
adds_has old new x (inr e) = subst (λ l. Contains l x) (sym e) (Contains-push old x)

pub extends_keeps : (old new : List ℕ) → Extends old new → (x : ℕ) → Contains old x → Contains new x
extends_keeps old new (more, e) x h = subst (λ l. Contains l x) (sym e) (Contains-append_left old more x h)
