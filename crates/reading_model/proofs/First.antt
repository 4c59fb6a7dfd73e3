-- The first of a list that has a property, by its place; what is searched so far.
use Rattle.std.proofs.Common.{arith, ◌≡◌, ◌⊎◌, inl, inr, ℕ, zero, suc, ◌+◌, ◌<◌, ◌≤◌, List, [], ◌∷◌, ◌++◌, length, take, slice_index_or, Contains, refl, sym, ap, subst, ◌∙◌}
use Rattle.finite_sets.proofs.Members.{among_from, contains_from}
use Rattle.finite_sets.proofs.Lists.{Contains-none}
use Rattle.reading_model.specs.First.{IsFirstWith, HasNone}

module _ {A : Type 0} (P : A → Type 0) where
  among_cases : (y x : A) (xs : List A) → Contains (x ∷ xs) y → (x ≡ y) ⊎ Contains xs y
  among_cases y x xs c = elim (among_from (x ∷ xs) y c) [ inl e ↦ inl e | inr m ↦ inr (contains_from xs y m) ]

  abbrev pub NoneTo : List A → ℕ → Type 0
  NoneTo xs i = (y : A) → Contains (take i xs) y → P y → ⊥

  pub first_at : (xs : List A) (i : ℕ) (x : A) → i < length xs → x ≡ slice_index_or xs i x → P x → NoneTo xs i → IsFirstWith P xs x
  first_at [] i x lt is p none = absurd (omega (arith, lt))
  first_at (z ∷ zs) zero x lt is p none = record { before = []; after = zs; split = ap (λ w. w ∷ zs) (sym is); has = p; none_before = λ y c q. Contains-none y c }
  first_at (z ∷ zs) (suc i) x lt is p none =
      let f = first_at zs i x (omega (arith, lt)) is p (λ y c q. none y (contains_from (z ∷ take i zs) y (inr (among_from (take i zs) y c))) q) in
      record {
        before = z ∷ f.before;
        after = f.after;
        split = ap (λ ws. z ∷ ws) f.split;
        has = f.has;
        none_before = λ y c q. elim (among_cases y z f.before c) [ inl e ↦ none y (contains_from (z ∷ take i zs) y (inl e)) q | inr m ↦ f.none_before y m q ];
      }

  pub none_more : (xs : List A) (i : ℕ) (x : A) → i < length xs → x ≡ slice_index_or xs i x → (P x → ⊥) → NoneTo xs i → NoneTo xs (i + 1)
  none_more [] i x lt is not none y c q = omega (arith, lt)
  none_more (z ∷ zs) zero x lt is not none y c q = elim (among_cases y z [] c) [ inl e ↦ not (subst P (sym (is ∙ e)) q) | inr m ↦ Contains-none y m ]
  none_more (z ∷ zs) (suc i) x lt is not none y c q =
      elim (among_cases y z (take (i + 1) zs) (subst (λ n. Contains (take n (z ∷ zs)) y) (let e : suc i + 1 ≡ suc (i + 1) = omega arith in e) c)) [
        | inl e ↦ none y (contains_from (z ∷ take i zs) y (inl e)) q
        | inr m ↦ none_more zs i x (omega (arith, lt)) is not (λ w d r. none w (contains_from (z ∷ take i zs) w (inr (among_from (take i zs) w d))) r) y m q
      ]

  pub none_all : (xs : List A) (i : ℕ) → length xs ≤ i → NoneTo xs i → HasNone P xs
  none_all [] i le none y c q = Contains-none y c
  none_all (z ∷ zs) zero le none y c q = omega (arith, le)
  none_all (z ∷ zs) (suc i) le none y c q =
      elim (among_cases y z zs c) [
        | inl e ↦ none y (contains_from (z ∷ take i zs) y (inl e)) q
        | inr m ↦ none_all zs i (omega (arith, le)) (λ w d r. none w (contains_from (z ∷ take i zs) w (inr (among_from (take i zs) w d))) r) y m q
      ]
