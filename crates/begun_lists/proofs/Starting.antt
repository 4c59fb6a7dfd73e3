-- The first items of some symbols' rules, listed symbol by symbol.
use Rattle.std.proofs.Common.{◌≡◌, ◌≢◌, ◌↔◌, ◌⊎◌, inl, inr, ℕ, ◌+◌, ◌≤◌, ◌++◌, List, [], ◌∷◌, take, length, slice_get, Some, Contains, sym, ◌∙◌, ap, subst, append-nil}
use Rattle.std.specs.Prelude.{AllPairs}
use Rattle.std.proofs.lemmas.List.Elements.{Contains-append_left, Contains-push, Contains-push_cases}
use Rattle.std.proofs.lemmas.List.{take_all}
use Rattle.finite_sets.proofs.Lists.{Contains-none}
use Rattle.recognizer_model.specs.declared.Item.{Item}
use Rattle.recognizer_model.specs.Flat.{FlatGrammar, IsRule, lhs_of}
use Rattle.begun_lists.specs.Begun.{IsPredicted, IsFirst}
use Rattle.begun_lists.specs.Tried.{RisesWithin, IsRuleOf}
use Rattle.begun_lists.proofs.Cutting.{take_next, not_before}
use Rattle.begun_lists.proofs.Rising.{rises_none, rises_on}

module _ (g : FlatGrammar) (symbols : List ℕ) where
  abbrev pub FirstsTo : List Item → ℕ → Type 0
  FirstsTo items k = (item : Item) → Contains items item ↔ IsFirst g (take k symbols) item

  abbrev pub RulesTo : List Item → ℕ → Type 0
  RulesTo items k = RisesWithin (IsRuleOf g (take k symbols)) 0 (length items)

  pub firsts_none : (items : List Item) → items ≡ [] → FirstsTo items 0
  firsts_none items none item = (λ c. absurd (Contains-none item (subst (λ l. Contains l item) none c)), λ (x, there, p). absurd (Contains-none x there))

  pub rules_none : (items : List Item) → items ≡ [] → RulesTo items 0
  rules_none items none = rises_none (IsRuleOf g (take 0 symbols)) 0 (length items) (ap (λ (l : List Item). length l) none)

  module _ (k x : ℕ) (at : Some x ≡ slice_get symbols k) (old new : List Item) where
    next : take (k + 1) symbols ≡ take k symbols ++ x ∷ []
    next = ap (take (k + 1)) (sym (append-nil symbols)) ∙ take_next symbols [] k x at

    pub firsts_more : FirstsTo old k → ((other : Item) → Contains new other ↔ (Contains old other ⊎ IsPredicted g x other)) → FirstsTo new (k + 1)
    firsts_more are listed item = subst (λ l. Contains new item ↔ IsFirst g l item) (sym next) (
      λ c. elim ((listed item).0 c) [
        | inl o ↦ let (y, there, p) = (are item).0 o in (y, Contains-append_left (take k symbols) (x ∷ []) y there, p)
        | inr p ↦ (x, Contains-push (take k symbols) x, p)
      ],
      λ (y, there, p). (listed item).1 (elim (Contains-push_cases (take k symbols) x y there) [
        | inl o ↦ inl ((are item).1 (y, o, p))
        | inr same ↦ inr (subst (λ z. IsPredicted g z item) (sym same) p)
      ]),
    )

    pub rules_more : AllPairs (λ a b. a ≢ b) symbols → RulesTo old k → RisesWithin (λ (r : ℕ). IsRule g r × (lhs_of g r ≡ x)) (length old) (length new) → RulesTo new (k + 1)
    rules_more once before now =
        subst (λ l. RisesWithin (IsRuleOf g l) 0 (length new)) (sym next)
        (rises_on (IsRuleOf g (take k symbols ++ x ∷ []))
        (λ r (rule, there). (rule, Contains-append_left (take k symbols) (x ∷ []) (lhs_of g r) there))
        (λ r (rule, l). (rule, subst (Contains (take k symbols ++ x ∷ [])) (sym l) (Contains-push (take k symbols) x)))
        (λ r (rule, there) (rule', l). not_before symbols k x once at (subst (Contains (take k symbols)) l there)) before now)

  pub firsts_all : (items : List Item) (k : ℕ) → length symbols ≤ k → FirstsTo items k → (item : Item) → Contains items item ↔ IsFirst g symbols item
  firsts_all items k le are item = subst (λ l. Contains items item ↔ IsFirst g l item) (take_all k symbols le) (are item)

  pub rules_all : (items : List Item) (k : ℕ) → length symbols ≤ k → RulesTo items k → RisesWithin (IsRuleOf g symbols) 0 (length items)
  rules_all items k le r = subst (λ l. RisesWithin (IsRuleOf g l) 0 (length items)) (take_all k symbols le) r
