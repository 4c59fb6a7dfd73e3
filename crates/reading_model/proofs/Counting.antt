-- Lists of exactly the values with a property, each once, have one length.
use Rattle.std.proofs.Common.{◌≡◌, ◌≢◌, suc, ◌≤◌, List, [], ◌∷◌, length, inl, inr, refl, sym, ap, ◌∙◌, subst, arith}
use Rattle.std.specs.List.{AllPairs}
use Rattle.finite_sets.proofs.Members.{Among}
use Rattle.recognizer_model.proofs.FlatNamed.{at_among}

-- the list without one of its elements
without : {A : Type 0} (ys : List A) (x : A) → Among x ys → (zs : List A) × (suc (length zs) ≡ length ys) × ((y : A) → x ≢ y → Among y ys → Among y zs)
without [] x h = absurd h
without (y ∷ ys) x (inl e) = (ys, refl, λ z other m. elim m [ inl f ↦ absurd (other (sym e ∙ f)) | inr n ↦ n ])
without (y ∷ ys) x (inr h) =
    let (zs, len, keeps) = without ys x h in
    (y ∷ zs, ap suc len, λ z other m. elim m [ inl f ↦ inl f | inr n ↦ inr (keeps z other n) ])

no_longer : {A : Type 0} (xs ys : List A) → AllPairs (λ x y. x ≢ y) xs → ((x : A) → Among x xs → Among x ys) → length xs ≤ length ys
no_longer [] ys once among = omega arith
no_longer {A} (x ∷ xs) ys once among =
    let (zs, len, keeps) = without ys x (among x (inl refl)) in
    let le = no_longer xs zs (λ i j d lt within. once (suc i) (suc j) d (omega (arith, lt)) (omega (arith, within)))
    (λ y m. keeps y (λ e. first_once (subst (λ (z : A). Among z xs) (sym e) m)) (among y (inr m))) in
    omega (arith, le, len)
  where
    first_once : Among x xs → ⊥
    first_once m = let (k, lt, e) = at_among xs x x m in once 0 (suc k) x (omega arith) (omega (arith, lt)) (sym e)
