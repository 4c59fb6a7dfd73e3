-- Loops over lists: one element more.
use Rattle.std.proofs.Common.{◌≡◌, ◌↔◌, ◌⊎◌, inl, inr, ℕ, zero, suc, ◌+◌, ◌<◌, ◌++◌, List, [], ◌∷◌, length, take, map, get_or, Contains, sym, ap, ◌∙◌, subst, arith, length-append}
use Rattle.std.proofs.lemmas.Bool.{cases_lt}
use Rattle.std.proofs.lemmas.List.{take_more, get_or_append_left, get_or-append-add, get_or_default}
use Rattle.std.proofs.lemmas.List.Elements.{Contains-append_left, Contains-push, Contains-push_cases}
use Rattle.language_model.specs.Classes.{Class, HasMember}
use Rattle.lexer.specs.Terminals.{HasTerminal, AreTerminalsOf}
use Rattle.jagged.specs.Rows.{row_at}

-- the first elements with one more, which a loop has at hand
pub next_is : {X : Type 0} (xs : List X) (i : ℕ) (y : X) → i < length xs → y ≡ get_or xs i y → take (i + 1) xs ≡ take i xs ++ y ∷ []
next_is xs i y lt e = take_more xs i y lt ∙ ap (λ z. take i xs ++ z ∷ []) (sym e)

pub contains_next : {X : Type 0} (xs : List X) (i : ℕ) (y x : X) → i < length xs → y ≡ get_or xs i y → Contains (take (i + 1) xs) x ↔ (Contains (take i xs) x ⊎ (y ≡ x))
contains_next xs i y x lt e =
    subst (λ l. Contains l x ↔ (Contains (take i xs) x ⊎ (y ≡ x))) (sym (next_is xs i y lt e)) (
      λ h. Contains-push_cases (take i xs) y x h,
      λ h. elim h [ inl a ↦ Contains-append_left (take i xs) (y ∷ []) x a | inr s ↦ subst (Contains (take i xs ++ y ∷ [])) s (Contains-push (take i xs) y) ],
    )

-- ---- the terminals of a character

module _ (sets : List (ℕ × Class)) (c i : ℕ) (item : ℕ × Class) (old : List ℕ) (lt : i < length sets) (is : item ≡ get_or sets i item) (so_far : AreTerminalsOf (take i sets) c old) where
  pub terminals_more : HasMember item.1 c → AreTerminalsOf (take (i + 1) sets) c (old ++ item.0 ∷ [])
  terminals_more member t = (there, back)
    where
      there : Contains (old ++ item.0 ∷ []) t → HasTerminal (take (i + 1) sets) c t
      there h = elim (Contains-push_cases old item.0 t h) [
        | inl o ↦ let (set, k, m) = (so_far t).0 o in (set, (contains_next sets i item (t, set) lt is).1 (inl k), m)
        | inr s ↦ (item.1, (contains_next sets i item (t, item.1) lt is).1 (inr (ap (λ z. (z, item.1)) s)), member)
      ]

      back : HasTerminal (take (i + 1) sets) c t → Contains (old ++ item.0 ∷ []) t
      back (set, k, m) = elim ((contains_next sets i item (t, set) lt is).0 k) [
        | inl o ↦ Contains-append_left old (item.0 ∷ []) t ((so_far t).1 (set, o, m))
        | inr s ↦ subst (Contains (old ++ item.0 ∷ [])) (ap (λ (z : ℕ × Class). z.0) s) (Contains-push old item.0)
      ]

  pub terminals_same : (HasMember item.1 c → ⊥) → AreTerminalsOf (take (i + 1) sets) c old
  terminals_same none t = (there, back)
    where
      there : Contains old t → HasTerminal (take (i + 1) sets) c t
      there o = let (set, k, m) = (so_far t).0 o in (set, (contains_next sets i item (t, set) lt is).1 (inl k), m)

      back : HasTerminal (take (i + 1) sets) c t → Contains old t
      back (set, k, m) = elim ((contains_next sets i item (t, set) lt is).0 k) [
        | inl o ↦ (so_far t).1 (set, o, m)
        | inr s ↦ absurd (none (subst (λ (z : ℕ × Class). HasMember z.1 c) (sym s) m))
      ]

-- ---- one element more

module _ {X : Type 0} (P : ℕ → X → Type 0) (xs xs' : List X) (x : X) (is : xs' ≡ xs ++ x ∷ []) where
  pub each_more : ((k : ℕ) (d : X) → k < length xs → P k (get_or xs k d)) → P (length xs) x → (k : ℕ) (d : X) → k < length xs' → P k (get_or xs' k d)
  each_more before here k d lt = elim (cases_lt k (length xs)) [
    | inl l ↦ subst (P k) (sym (get_or_append_left xs (x ∷ []) d k l) ∙ ap (λ r. get_or r k d) (sym is)) (before k d l)
    | inr ge ↦
        let len = length-append xs (x ∷ []) in
        let len' = ap (λ (l : List X). length l) is in
        let same : length xs + 0 ≡ k = omega arith in
        let at : get_or xs' (length xs + 0) d ≡ x = ap (λ r. get_or r (length xs + 0) d) is ∙ get_or-append-add xs (x ∷ []) 0 d in
        subst (λ z. P z (get_or xs' z d)) same (subst (P (length xs + 0)) (sym at) (subst (λ z. P z x) (let z : length xs ≡ length xs + 0 = omega arith in z) here))
  ]

pub rows_more : (P : ℕ → List ℕ → Type 0) (rows rows' : List (List ℕ)) (row : List ℕ) → rows' ≡ rows ++ row ∷ [] → ((k : ℕ) → k < length rows → P k (row_at rows k)) → P (length rows) row →
    (k : ℕ) → k < length rows' → P k (row_at rows' k)
rows_more P rows rows' row is before here k lt = each_more P rows rows' row is (λ k d lt. subst (P k) (get_or_default rows k [] d lt) (before k lt)) here k [] lt

map_at : {X Y : Type 0} (f : X → Y) (x : X) (xs : List X) (k : ℕ) → k < length xs → get_or xs k x ≡ x → Contains (map f xs) (f x)
map_at f x [] k lt e = absurd (omega arith)
map_at f x (y ∷ ys) zero lt e = (0, omega arith, ap f e)
map_at f x (y ∷ ys) (suc k) lt e = let (j, jl, je) = map_at f x ys k (omega arith) e in (suc j, omega arith, je)
