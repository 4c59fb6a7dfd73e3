-- What is found of the names that are declared.
use Rattle.std.proofs.Common.{◌≡◌, ◌⊎◌, inl, inr, ℕ, Bool, true, false, cond, List, [], ◌∷◌, Option, Some, None, Contains, IsPermutation, String, string_bytes, refl, sym, ◌∙◌, ap, subst, arith}
use Rattle.std.specs.HashMap.{PutsEntry}
use Rattle.std.specs.Map.{lookup}
use Rattle.std.specs.String.{string_eq}
use Rattle.std.specs.Str.{bytes_eq}
use Rattle.std.specs.declared.alloc.Global.{Global}
use Rattle.std.proofs.lemmas.List.Sorted.{Contains-permutation, IsPermutation-sym}
use Rattle.std.proofs.lemmas.List.Elements.{Contains-append_right, Contains-push_cases, Contains-append_cases}
use Rattle.std.proofs.lemmas.Slice.Eq.{bytes_eq-Decides}
use Rattle.declared_names.specs.Scope.{Declares, IsFound, IsAdded}
use Rattle.declared_names.specs.declared.scope.Scope.{Scope}

abbrev Entry : Type 0
Entry = String Global × ℕ

Contains-cons_cases : {X : Type 0} (x : X) (xs : List X) (y : X) → Contains (x ∷ xs) y → (x ≡ y) ⊎ Contains xs y
Contains-cons_cases x xs y h = elim (Contains-append_cases (x ∷ []) xs y h) [
  | inl one ↦ elim (Contains-push_cases [] x y one) [ inl none ↦ absurd (omega (arith, none.1)) | inr same ↦ inl same ]
  | inr rest ↦ inr rest
]

Contains-first : {X : Type 0} (x : X) (xs : List X) → Contains (x ∷ xs) x
Contains-first x xs = (0, omega arith, refl)

Contains-rest : {X : Type 0} (x : X) (xs : List X) (y : X) → Contains xs y → Contains (x ∷ xs) y
Contains-rest x xs y h = Contains-append_right (x ∷ []) xs y h

-- what a look-up finds is an entry that passes, and where it finds none no entry does
lookup_found : {K X : Type 0} (test : K → Bool) (es : List (K × X)) (v : X) → lookup test es ≡ Some v → (k : K) × Contains es (k, v) × (test k ≡ true)
lookup_found test [] v e = cc
lookup_found {K} {X} test (x ∷ es) v e = at_first (test x.0) refl e (λ later. lookup_found test es v later)
  where
    at_first : (b : Bool) → test x.0 ≡ b → cond b (Some x.1) (lookup test es) ≡ Some v → (lookup test es ≡ Some v → (k : K) × Contains es (k, v) × (test k ≡ true)) → (k : K) × Contains (x ∷ es) (k, v) × (test k ≡ true)
    at_first true is first among =
        let one : x.1 ≡ v = cc in
        (x.0, subst (λ z. Contains (x ∷ es) (x.0, z)) one (Contains-first x es), is)
    at_first false is later among = let (k, has, passes) = among later in (k, Contains-rest x es (k, v) has, passes)

lookup_missed : {K X : Type 0} (test : K → Bool) (es : List (K × X)) → lookup test es ≡ None → (k : K) (v : X) → Contains es (k, v) → test k ≡ true → ⊥
lookup_missed test [] e k v h p = absurd (omega (arith, h.1))
lookup_missed {K} {X} test (x ∷ es) e k v h p = at_first (test x.0) refl e (λ later rest. lookup_missed test es later k v rest p)
  where
    at_first : (b : Bool) → test x.0 ≡ b → cond b (Some x.1) (lookup test es) ≡ None → (lookup test es ≡ None → Contains es (k, v) → ⊥) → ⊥
    at_first true is first among = cc
    at_first false is later among = elim (Contains-cons_cases x es (k, v) h) [
      | inl same ↦ let key : x.0 ≡ k = ap (λ (z : K × X). z.0) same in cc
      | inr rest ↦ among later rest
    ]

abbrev named : List ℕ → String Global → Bool
named name key = bytes_eq name (string_bytes key)

pub is_found : (scope : Scope) (name : List ℕ) (found : Option ℕ) → found ≡ lookup (named name) scope.declared.entries → IsFound scope name found
is_found scope name (Some start) e =
    let (key, has, passes) = lookup_found (named name) scope.declared.entries start (sym e) in
    (key, has, sym ((bytes_eq-Decides name (string_bytes key)).0 passes))
is_found scope name None e = λ start (key, has, is).
    lookup_missed (named name) scope.declared.entries (sym e) key start has ((bytes_eq-Decides name (string_bytes key)).1 (sym is))

pub found_none : (scope : Scope) (name : List ℕ) (found : Option ℕ) → ((start : ℕ) → found ≡ Some start → ⊥) → IsFound scope name found → IsFound scope name None
found_none scope name (Some start) none f = absurd (none start refl)
found_none scope name None none f = f

-- an entry more is a name more
pub is_added : (before after : Scope) (key : String Global) (start : ℕ) → IsPermutation ((key, start) ∷ before.declared.entries) after.declared.entries → IsAdded before after (string_bytes key) start
is_added before after key start same n s = (told, untold)
  where
    told : Declares after n s → ((n ≡ string_bytes key) × (s ≡ start)) ⊎ Declares before n s
    told (k, has, is) = elim (Contains-cons_cases (key, start) before.declared.entries (k, s) (Contains-permutation _ _ _ (IsPermutation-sym _ _ same) has)) [
      | inl one ↦ inl (sym is ∙ ap (λ (z : Entry). string_bytes z.0) (sym one), ap (λ (z : Entry). z.1) (sym one))
      | inr rest ↦ inr (k, rest, is)
    ]

    untold : ((n ≡ string_bytes key) × (s ≡ start)) ⊎ Declares before n s → Declares after n s
    untold (inl (name, at)) = (key, subst (λ z. Contains after.declared.entries (key, z)) (sym at) (Contains-permutation _ _ _ same (Contains-first (key, start) before.declared.entries)), sym name)
    untold (inr (k, has, is)) = (k, Contains-permutation _ _ _ same (Contains-rest (key, start) before.declared.entries (k, s) has), is)

-- what was put under a name that was not declared is a name more
pub is_put : (before after : Scope) (key : String Global) (start : ℕ) (old : Option ℕ) → IsFound before (string_bytes key) None → old ≡ lookup (string_eq key) before.declared.entries →
    PutsEntry string_eq before.declared after.declared key start old → IsAdded before after (string_bytes key) start
is_put before after key start None missing is puts = is_added before after key start puts
is_put before after key start (Some at) missing is puts =
    let (k, has, same) = lookup_found (string_eq key) before.declared.entries at (sym is) in
    absurd (missing at (k, has, sym ((bytes_eq-Decides (string_bytes key) (string_bytes k)).0 same)))
