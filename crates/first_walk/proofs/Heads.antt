-- The first element of a list in strict order, and truths that are decided by one fact.
use Rattle.std.proofs.Common.{◌≡◌, Bool, true, false, List, [], ◌∷◌, ◌⊎◌, inl, inr, ◌↔◌, refl, sym, ◌∙◌, ap, subst}
use Rattle.std.specs.Prelude.{IsTrue}
use Rattle.std.specs.declared.cmp.Ordering.{Ordering}
use Rattle.std.specs.declared.cmp.Ordering.TheVariants.{Less}
use Rattle.std.specs.List.{AllByRecursion}
use Rattle.std.specs.List.Sorted.{IsStrictlySortedBy}
use Rattle.finite_sets.proofs.Members.{Among}
use Rattle.first_walk.specs.Walk.{is_none}

pub same_bool : (a b : Bool) (P : Type 0) → (IsTrue a ↔ P) → (IsTrue b ↔ P) → a ≡ b
same_bool true b P f g = sym (g.1 (f.0 refl))
same_bool false true P f g = f.1 (g.0 refl)
same_bool false false P f g = refl

pub one_of : {X : Type 0} (P : X → Type 0) (xs : List X) → AllByRecursion P xs → (x : X) → Among x xs → P x
one_of P [] all x i = absurd i
one_of P (y ∷ ys) all x (inl e) = subst P e all.0
one_of P (y ∷ ys) all x (inr i) = one_of P ys all.1 x i

pub record IsHead {K : Type 0} (xs : List K) (m : K) : Type 0 where
  pub rest : List K
  pub is : xs ≡ m ∷ rest
  pub none : IsTrue (is_none rest) ↔ ((n : K) → Among n xs → n ≡ m)

module _ {K : Type 0} (c : K → K → Ordering) (never : (x y : K) → c x y ≡ Less → c y x ≡ Less → ⊥) where
  pub first_is : (xs : List K) → IsStrictlySortedBy c xs → (m : K) → Among m xs → ((n : K) → Among n xs → (n ≡ m) ⊎ (c m n ≡ Less)) → IsHead xs m
  unfolding IsStrictlySortedBy
  first_is [] sorted m i least = absurd i
  first_is (x ∷ xs) sorted m i least = record { rest = xs; is = ap (λ z. z ∷ xs) same; none = (to xs sorted.0, λ all. from xs sorted.0 (λ n a. all n (inr a))) }
    where
      same : x ≡ m
      same = go i (least x (inl refl))
        where
          go : (x ≡ m) ⊎ Among m xs → (x ≡ m) ⊎ (c m x ≡ Less) → x ≡ m
          go (inl e) h = e
          go (inr a) (inl e) = e
          go (inr a) (inr lt) = absurd (never m x lt (one_of (λ y. c x y ≡ Less) xs sorted.0 m a))

      to : (ys : List K) → AllByRecursion (λ y. c x y ≡ Less) ys → IsTrue (is_none ys) → (n : K) → (x ≡ n) ⊎ Among n ys → n ≡ m
      to [] all t n (inl e) = sym e ∙ same
      to [] all t n (inr a) = absurd a
      to (y ∷ ys) all t n h = let no : false ≡ true = t in absurd (cc)

      from : (ys : List K) → AllByRecursion (λ y. c x y ≡ Less) ys → ((n : K) → Among n ys → n ≡ m) → IsTrue (is_none ys)
      from [] all alone = refl
      from (y ∷ ys) all alone = (
          let back : y ≡ x = alone y (inl refl) ∙ sym same in
          let less : c x x ≡ Less = subst (λ z. c x z ≡ Less) back all.0 in
          absurd (never x x less less)
          )
