-- Lists: their elements, by places and one after another.
use Rattle.std.proofs.Common.{◌≡◌, ◌↔◌, ◌⊎◌, inl, inr, ℕ, zero, suc, ◌+◌, ◌<◌, ◌≤◌, ◌++◌, List, [], ◌∷◌, length, take, get_or, slice_get, Option, None, Contains, sym, subst, arith}
use Rattle.std.proofs.lemmas.List.{take_more}
use Rattle.std.proofs.lemmas.List.Elements.{Contains-append_left, Contains-push, Contains-push_cases}

pub got_none : {X : Type 0} (xs : List X) (k : ℕ) → Path (Option X) None (slice_get xs k) → length xs ≤ k
got_none [] k e = omega arith
got_none (y ∷ ys) zero e = absurd (cc)
got_none (y ∷ ys) (suc k) e = let h = got_none ys k e in omega arith

-- the first elements, with one more
pub contains_next : {X : Type 0} (xs : List X) (i : ℕ) (d x : X) → i < length xs → Contains (take (i + 1) xs) x ↔ (Contains (take i xs) x ⊎ (get_or xs i d ≡ x))
contains_next xs i d x lt =
    subst (λ l. Contains l x ↔ (Contains (take i xs) x ⊎ (get_or xs i d ≡ x))) (sym (take_more xs i d lt)) (
      λ h. Contains-push_cases (take i xs) (get_or xs i d) x h,
      λ h. elim h [ inl a ↦ Contains-append_left (take i xs) (get_or xs i d ∷ []) x a | inr s ↦ subst (Contains (take i xs ++ get_or xs i d ∷ [])) s (Contains-push (take i xs) (get_or xs i d)) ],
    )

-- an element more
pub contains_pushed : {X : Type 0} (xs xs' : List X) (y x : X) → xs' ≡ xs ++ y ∷ [] → Contains xs' x ↔ (Contains xs x ⊎ (y ≡ x))
contains_pushed xs xs' y x is =
    subst (λ l. Contains l x ↔ (Contains xs x ⊎ (y ≡ x))) (sym is) (
      λ h. Contains-push_cases xs y x h,
      λ h. elim h [ inl a ↦ Contains-append_left xs (y ∷ []) x a | inr s ↦ subst (Contains (xs ++ y ∷ [])) s (Contains-push xs y) ],
    )
