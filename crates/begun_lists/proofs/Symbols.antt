-- The symbols that items wait for, listed item by item.
use Rattle.std.proofs.Common.{◌≡◌, ◌↔◌, inl, inr, ℕ, ◌+◌, ◌≤◌, ◌++◌, List, [], ◌∷◌, take, length, slice_get, Some, Contains, sym, ◌∙◌, ap, subst, append-nil}
use Rattle.std.proofs.lemmas.List.Elements.{Contains-append_left, Contains-push, Contains-push_cases}
use Rattle.std.proofs.lemmas.List.{take_all}
use Rattle.std.proofs.lemmas.Option.{same_Some}
use Rattle.finite_sets.proofs.Lists.{Contains-none}
use Rattle.recognizer_model.specs.declared.Item.{Item}
use Rattle.recognizer_model.specs.Flat.{FlatGrammar}
use Rattle.recognizer_model.specs.Items.{after}
use Rattle.item_rows.specs.Kept.{IsAwaited}
use Rattle.begun_lists.specs.Begun.{HasRule, AreAwaited}
use Rattle.begun_lists.proofs.Cutting.{take_next}

module _ (g : FlatGrammar) (items : List Item) where
  abbrev pub AwaitedTo : List ℕ → ℕ → Type 0
  AwaitedTo symbols k = AreAwaited g (take k items) symbols

  pub awaited_none : (symbols : List ℕ) → symbols ≡ [] → AwaitedTo symbols 0
  awaited_none symbols none x = (λ s. absurd (Contains-none x (subst (λ l. Contains l x) none s)), λ ((w, there, e), has). absurd (Contains-none w there))

  module _ (old : List ℕ) (k : ℕ) (item : Item) (at : Some item ≡ slice_get items k) (are : AwaitedTo old k) where
    next : take (k + 1) items ≡ take k items ++ item ∷ []
    next = ap (take (k + 1)) (sym (append-nil items)) ∙ take_next items [] k item at

    pub awaited_more : (new : List ℕ) (y : ℕ) → new ≡ old ++ y ∷ [] → after g item ≡ Some y → HasRule g y → AwaitedTo new (k + 1)
    awaited_more new y is waits has x = subst (λ l. Contains new x ↔ (IsAwaited g l x × HasRule g x)) (sym next) (
      λ s. elim (Contains-push_cases old y x (subst (λ l. Contains l x) is s)) [
        | inl o ↦ let ((w, there, e), h) = (are x).0 o in ((w, Contains-append_left (take k items) (item ∷ []) w there, e), h)
        | inr same ↦ subst (λ z. IsAwaited g (take k items ++ item ∷ []) z × HasRule g z) same ((item, Contains-push (take k items) item, waits), has)
      ],
      λ ((w, there, e), h). subst (λ l. Contains l x) (sym is) (elim (Contains-push_cases (take k items) item w there) [
        | inl o ↦ Contains-append_left old (y ∷ []) x ((are x).1 ((w, o, e), h))
        | inr same ↦ subst (Contains (old ++ y ∷ [])) (same_Some _ _ (sym waits ∙ (ap (after g) same ∙ e))) (Contains-push old y)
      ]),
    )

    pub awaited_same : ((y : ℕ) → after g item ≡ Some y → ¬ HasRule g y) → AwaitedTo old (k + 1)
    awaited_same none x = subst (λ l. Contains old x ↔ (IsAwaited g l x × HasRule g x)) (sym next) (
      λ s. (let ((w, there, e), h) = (are x).0 s in ((w, Contains-append_left (take k items) (item ∷ []) w there, e), h)),
      λ ((w, there, e), h). elim (Contains-push_cases (take k items) item w there) [
        | inl o ↦ (are x).1 ((w, o, e), h)
        | inr same ↦ absurd (none x (ap (after g) same ∙ e) h)
      ],
    )

  -- the same symbols in another order
  pub awaited_all : (symbols sorted : List ℕ) (k : ℕ) → length items ≤ k → AwaitedTo symbols k → ((x : ℕ) → Contains sorted x ↔ Contains symbols x) → AreAwaited g items sorted
  awaited_all symbols sorted k le are same x = subst (λ l. Contains sorted x ↔ (IsAwaited g l x × HasRule g x)) (take_all k items le) (
    λ s. (are x).0 ((same x).0 s),
    λ a. (same x).1 ((are x).1 a),
  )
