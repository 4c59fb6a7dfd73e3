-- Counts of the members of a list, and least members by an order.
use Rattle.std.proofs.Common.{arith, ◌⊎◌, inl, inr, ℕ, ◌+◌, ◌<◌, ◌≤◌, List, [], ◌∷◌, refl, sym, subst}
use Rattle.finite_sets.specs.Decided.{IsDecided}
use Rattle.finite_sets.proofs.Members.{Among}

abbrev tick : {A : Type 0} → IsDecided A → ℕ
tick (inl a) = 1
tick (inr a) = 0

module _ {X : Type 0} where
  -- how many places of a list have an element of which P holds
  abbrev pub count : (P : X → Type 0) → ((x : X) → IsDecided (P x)) → List X → ℕ
  count P d [] = 0
  count P d (x ∷ xs) = tick (d x) + count P d xs

  module _ (P Q : X → Type 0) (d : (x : X) → IsDecided (P x)) (e : (x : X) → IsDecided (Q x)) (f : (x : X) → P x → Q x) where
    tick_most : (x : X) → tick (d x) ≤ tick (e x)
    tick_most x = go (d x) (e x)
      where
        go : (a : IsDecided (P x)) (b : IsDecided (Q x)) → tick a ≤ tick b
        go (inl p) (inl q) = omega arith
        go (inl p) (inr q) = absurd (q (f x p))
        go (inr p) (inl q) = omega arith
        go (inr p) (inr q) = omega arith

    pub count_most : (xs : List X) → count P d xs ≤ count Q e xs
    count_most [] = omega arith
    count_most (x ∷ xs) = let a = tick_most x in let b = count_most xs in omega arith

    tick_less : (x : X) → (P x → ⊥) → Q x → tick (d x) < tick (e x)
    tick_less x none has = go (d x) (e x)
      where
        go : (a : IsDecided (P x)) (b : IsDecided (Q x)) → tick a < tick b
        go (inl p) b = absurd (none p)
        go (inr p) (inl q) = omega arith
        go (inr p) (inr q) = absurd (q has)

    pub count_less : (xs : List X) (x : X) → Among x xs → (P x → ⊥) → Q x → count P d xs < count Q e xs
    count_less [] x m none has = absurd m
    count_less (y ∷ ys) x (inl same) none has =
        let a = tick_less y (λ p. none (subst P same p)) (subst Q (sym same) has) in
        let b = count_most ys in
        omega arith
    count_less (y ∷ ys) x (inr m) none has = let a = tick_most y in let b = count_less ys x m none has in omega arith

  module _ (Le : X → X → Type 0) (total : (x y : X) → Le x y ⊎ Le y x) (through : (x y z : X) → Le x y → Le y z → Le x z) (P : X → Type 0) where
    abbrev pub Least : List X → X → Type 0
    Least xs x = Among x xs × P x × ((y : X) → Among y xs → P y → Le x y)

    -- the least of the elements of which P holds, or none
    pub least_among : (xs : List X) → ((x : X) → Among x xs → IsDecided (P x)) → ((x : X) × Least xs x) ⊎ ((x : X) → Among x xs → P x → ⊥)
    least_among [] d = inr (λ x m p. m)
    least_among (x ∷ xs) d = go (d x (inl refl)) (least_among xs (λ y m. d y (inr m)))
      where
        itself : (z : X) → Le z z
        itself z = elim (total z z) [ inl a ↦ a | inr a ↦ a ]

        alone : P x → ((y : X) → Among y xs → P y → Le x y) → Least (x ∷ xs) x
        alone p all = (inl refl, p, (λ y m q. elim m [ inl e ↦ subst (Le x) e (itself x) | inr m ↦ all y m q ]))

        later : (z : X) → Least xs z → (P x → Le z x) → Least (x ∷ xs) z
        later z (m, p, all) low = (inr m, p, (λ y n q. elim n [ inl e ↦ subst (Le z) e (low (subst P (sym e) q)) | inr n ↦ all y n q ]))

        go : IsDecided (P x) → ((z : X) × Least xs z) ⊎ ((z : X) → Among z xs → P z → ⊥) → ((z : X) × Least (x ∷ xs) z) ⊎ ((z : X) → Among z (x ∷ xs) → P z → ⊥)
        go (inr p) (inl (z, l)) = inl (z, later z l (λ q. absurd (p q)))
        go (inr p) (inr none) = inr (λ y m q. elim m [ inl e ↦ p (subst P (sym e) q) | inr m ↦ none y m q ])
        go (inl p) (inr none) = inl (x, alone p (λ y m q. absurd (none y m q)))
        go (inl p) (inl (z, l)) = elim (total x z) [
          | inl low ↦ inl (x, alone p (λ y m q. through x z y low (l.2 y m q)))
          | inr low ↦ inl (z, later z l (λ q. low))
        ]
