-- A strictly sorted list of the elements of which a decided property holds, by an order that tells known elements apart.
use Rattle.std.proofs.Common.{◌≡◌, ◌⊎◌, inl, inr, List, [], ◌∷◌, refl, sym, ◌∙◌, subst}
use Rattle.std.specs.List.{AllByRecursion}
use Rattle.std.specs.List.Sorted.{IsStrictlySortedBy}
use Rattle.std.specs.declared.cmp.Ordering.{Ordering}
use Rattle.std.specs.declared.cmp.Ordering.TheVariants.{Less}
use Rattle.finite_sets.specs.Decided.{IsDecided}
use Rattle.finite_sets.proofs.Members.{Among}

module _ {X : Type 0} (cmp : X → X → Ordering) (Known : X → Type 0) (three : (x y : X) → Known x → Known y → (cmp x y ≡ Less) ⊎ ((x ≡ y) ⊎ (cmp y x ≡ Less))) (through : (x y z : X) → cmp x y ≡ Less → cmp y z ≡ Less → cmp x z ≡ Less) where
  abbrev Under : X → List X → Type 0
  Under x ys = AllByRecursion (λ z. cmp x z ≡ Less) ys

  under_on : (x y : X) (ys : List X) → cmp x y ≡ Less → Under y ys → Under x ys
  under_on x y [] lt h = tt
  under_on x y (z ∷ zs) lt (a, b) = (through x y z lt a, under_on x y zs lt b)

  -- the list with x, if it was not there
  record Put (x : X) (ys zs : List X) : Type 0 where
    sorted : IsStrictlySortedBy cmp zs
    only : (z : X) → Among z zs → (x ≡ z) ⊎ Among z ys
    all : (z : X) → (x ≡ z) ⊎ Among z ys → Among z zs
    under : (b : X) → cmp b x ≡ Less → Under b ys → Under b zs

  put : (x : X) (ys : List X) → Known x → ((y : X) → Among y ys → Known y) → IsStrictlySortedBy cmp ys → (zs : List X) × Put x ys zs
  unfolding IsStrictlySortedBy
  put x [] k ks s = (x ∷ [], record { sorted = (tt, tt); only = λ z m. m; all = λ z m. m; under = λ b lt h. (lt, tt) })
  put x (y ∷ ys) k ks s = go (three x y k (ks y (inl refl))) (put x ys k (λ z m. ks z (inr m)) s.1)
    where
      go : (cmp x y ≡ Less) ⊎ ((x ≡ y) ⊎ (cmp y x ≡ Less)) → (zs : List X) × Put x ys zs → (zs : List X) × Put x (y ∷ ys) zs
      go (inl lt) r = (x ∷ y ∷ ys, record { sorted = ((lt, under_on x y ys lt s.0), s); only = λ z m. m; all = λ z m. m; under = λ b l h. (l, h) })
      go (inr (inl e)) r = (
        y ∷ ys,
        record {
          sorted = s;
          only = λ z m. inr m;
          all = λ z m. elim m [ inl same ↦ inl (sym e ∙ same) | inr there ↦ there ];
          under = λ b l h. h;
        },
      )
      go (inr (inr gt)) (zs, r) = (
        y ∷ zs,
        record {
          sorted = (r.under y gt s.0, r.sorted);
          only = λ z m. elim m [ inl same ↦ inr (inl same) | inr later ↦ elim (r.only z later) [ inl same ↦ inl same | inr there ↦ inr (inr there) ] ];
          all = λ z m. elim m [ inl same ↦ inr (r.all z (inl same)) | inr there ↦ elim there [ inl first ↦ inl first | inr later ↦ inr (r.all z (inr later)) ] ];
          under = λ b l h. (h.0, r.under b l h.1);
        },
      )

  module _ (P : X → Type 0) where
    abbrev Listed : List X → List X → Type 0
    Listed xs ys = IsStrictlySortedBy cmp ys × ((x : X) → Among x ys → Among x xs × P x) × ((x : X) → Among x xs → P x → Among x ys)

    nothing : IsStrictlySortedBy cmp []
    unfolding IsStrictlySortedBy
    nothing = tt

    pub sorted_listed : (xs : List X) → ((x : X) → Among x xs → Known x) → ((x : X) → Among x xs → IsDecided (P x)) → (ys : List X) × Listed xs ys
    sorted_listed [] ks d = ([], (nothing, (λ x m. absurd m), (λ x m p. m)))
    sorted_listed (x ∷ xs) ks d = go (d x (inl refl)) (sorted_listed xs (λ y m. ks y (inr m)) (λ y m. d y (inr m)))
      where
        go : IsDecided (P x) → (ys : List X) × Listed xs ys → (ys : List X) × Listed (x ∷ xs) ys
        go (inr other) (ys, (s, is, all)) =
            (ys, (s, (λ y m. let h = is y m in (inr h.0, h.1)), (λ y m p. elim m [ inl e ↦ absurd (other (subst P (sym e) p)) | inr later ↦ all y later p ])))
        go (inl p) (ys, (s, is, all)) =
            let (zs, r) = put x ys (ks x (inl refl)) (λ y m. ks y (inr (is y m).0)) s in
            (zs, (r.sorted, (λ y m. elim (r.only y m) [ inl e ↦ (inl e, subst P e p) | inr later ↦ (let h = is y later in (inr h.0, h.1)) ]), (λ y m q. r.all y (elim m [ inl e ↦ inl e | inr later ↦ inr (all y later q) ]))))
