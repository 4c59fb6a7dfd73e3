-- Classes of characters, of which more are added.
use Rattle.std.proofs.Common.{◌≡◌, ◌≢◌, ◌⊎◌, inl, inr, ℕ, zero, suc, ◌+◌, ◌<◌, ◌++◌, List, [], ◌∷◌, length, get_or, Option, Some, None, slice_get, slice_set, refl, sym, ap, ◌∙◌, subst, arith, length-append, append-nil}
use Rattle.std.proofs.lemmas.List.{get_or_append_left, get_or-append-add}
use Rattle.language_model.specs.Classes.{Class}
use Rattle.lexer.specs.Terminals.{AreTerminalsOf, IsClassOf}
use Rattle.jagged.specs.Rows.{row_at}

pub rows_added : (old new : List (List ℕ)) (row : List ℕ) → (new ≡ old) ⊎ (new ≡ old ++ row ∷ []) → (more : List (List ℕ)) × (new ≡ old ++ more)
rows_added old new row (inl e) = ([], e ∙ sym (append-nil old))
rows_added old new row (inr e) = (row ∷ [], e)

-- the last row
pub row_last : (old new : List (List ℕ)) (row : List ℕ) → new ≡ old ++ row ∷ [] → (length old < length new) × (row_at new (length old) ≡ row)
row_last old new row e =
    let long : length new ≡ length old + 1 = ap (λ (l : List (List ℕ)). length l) e ∙ length-append old (row ∷ []) in
    let at : length old + 0 ≡ length old = omega arith in
    (omega arith, subst (λ z. row_at new z ≡ row) at (ap (λ l. get_or l (length old + 0) []) e ∙ get_or-append-add old (row ∷ []) 0 []))

module _ (sets : List (ℕ × Class)) where
  -- with more rows
  pub class_kept : (old new : List (List ℕ)) → ((more : List (List ℕ)) × (new ≡ old ++ more)) → (c k : ℕ) → IsClassOf sets old c k → IsClassOf sets new c k
  class_kept old new (more, e) c k is =
      let long : length new ≡ length old + length more = ap (λ (l : List (List ℕ)). length l) e ∙ length-append old more in
      let at : row_at new k ≡ row_at old k = ap (λ l. get_or l k []) e ∙ get_or_append_left old more [] k is.there in
      record { there = (let t = is.there in omega arith); exact = subst (AreTerminalsOf sets c) (sym at) is.exact }

  -- the classes that are noted of some characters
  abbrev pub AreClasses : (ascii : List (Option ℕ)) → (rows : List (List ℕ)) → Type 0
  AreClasses ascii rows = (c k : ℕ) → slice_get ascii c ≡ Some (Some k) → IsClassOf sets rows c k

  pub classes_kept : (ascii : List (Option ℕ)) (old new : List (List ℕ)) → ((more : List (List ℕ)) × (new ≡ old ++ more)) → AreClasses ascii old → AreClasses ascii new
  classes_kept ascii old new grown are c k e = class_kept old new grown c k (are c k e)

  -- with one more
  pub classes_more : (ascii after : List (Option ℕ)) (rows : List (List ℕ)) (code class : ℕ) →
      ((i k : ℕ) → slice_get after i ≡ Some (Some k) → (slice_get ascii i ≡ Some (Some k)) ⊎ ((i ≡ code) × (k ≡ class))) → AreClasses ascii rows → IsClassOf sets rows code class → AreClasses after rows
  classes_more ascii after rows code class adds are is c k e = elim (adds c k e) [
    | inl o ↦ are c k o
    | inr (same, of) ↦ subst (λ z. IsClassOf sets rows z k) (sym same) (subst (IsClassOf sets rows code) (sym of) is)
  ]

-- a list with one element set
pub got_set : {A : Type 0} (xs : List A) (k : ℕ) (x : A) (j : ℕ) (y : A) → slice_get (slice_set xs k x) j ≡ Some y → (slice_get xs j ≡ Some y) ⊎ ((j ≡ k) × (y ≡ x))
got_set [] k x j y e = absurd (cc)
got_set (z ∷ zs) zero x zero y e = inr (refl, cc)
got_set (z ∷ zs) zero x (suc j) y e = inl e
got_set (z ∷ zs) (suc k) x zero y e = inl e
got_set (z ∷ zs) (suc k) x (suc j) y e = elim (got_set zs k x j y e) [ inl o ↦ inl o | inr (n, o) ↦ inr (ap suc n, o) ]

-- room for one more, with nothing noted
pub none_pushed : (xs : List (Option ℕ)) → ((i k : ℕ) → slice_get xs i ≢ Some (Some k)) → (i k : ℕ) → slice_get (xs ++ None ∷ []) i ≢ Some (Some k)
none_pushed [] none zero k e = absurd (cc)
none_pushed [] none (suc i) k e = absurd (cc)
none_pushed (x ∷ xs) none zero k e = none zero k e
none_pushed (x ∷ xs) none (suc i) k e = none_pushed xs (λ j m at. none (suc j) m at) i k e
