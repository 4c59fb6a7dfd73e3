-- Single steps that lead on twice.
use Rattle.std.proofs.Common.{◌≡◌, ◌↔◌, ◌++◌, ℕ, ◌+◌, ◌<◌, Bool, true, false, List, [], ◌∷◌, take, Some, None, Option, Contains, slice_get, IsTrue, inl, inr, refl, sym, ◌∙◌, ap, subst, arith}
use Rattle.std.specs.Prelude.{IfSome, IsNone}
use Rattle.std.specs.Option.{is_some}
use Rattle.std.proofs.lemmas.List.{take_more}
use Rattle.std.proofs.lemmas.List.Elements.{Contains-push_cases}
use Rattle.finite_sets.proofs.Lists.{get_index}
use Rattle.recognizer_model.specs.declared.Item.{Item}
use Rattle.recognizer_model.specs.Flat.{FlatGrammar, IsRule}
use Rattle.recognizer_model.specs.Items.{IsWhole, advanced}
use Rattle.recognizer_model.specs.Counts.{IsListOf}
use Rattle.item_rows.specs.Rows.{row_at}
use Rattle.item_rows.specs.Kept.{AreRows}
use Rattle.leo_items.specs.Hidden.{IsSingleStep, StepsTwice, SomeStepsTwiceIn}
use Rattle.leo_items.proofs.Chains.{leo_inside}

module _ (g : FlatGrammar) (rows : List (List Item)) (earleme from : ℕ) where
  pub step_rule : (are : AreRows g rows) (item step : Item) → IsSingleStep g rows earleme from item step → IsRule g step.rule
  step_rule are item step (lt, (leo, l, same), le) = subst (λ (s : Item). IsRule g s.rule) (sym same) (leo_inside g rows are l).0

  step_same : (item a b : Item) → IsSingleStep g rows earleme from item a → IsSingleStep g rows earleme from item b → a ≡ b
  step_same item a b (lt, (x, l, e), le) (lt', (y, l', e'), le') = e ∙ (ap advanced (l'.only x l.there l.waits) ∙ sym e')

  -- after a step there is another, or none
  pub twice_some : (item step : Item) (next : Option Item) → IsSingleStep g rows earleme from item step → IfSome next (λ n. IsSingleStep g rows earleme 0 step n) → (IsNone next → (n : Item) → ¬ IsSingleStep g rows earleme 0 step n) →
      (b : Bool) → b ≡ is_some next → IsTrue b ↔ StepsTwice g rows earleme from item
  twice_some item step (Some n) s some none b e = (λ _. (step, s, (n, some)), λ _. cc)
  twice_some item step None s some none b e = (
    λ t. absurd (cc),
    λ (a, s', (n, s'')). absurd (none refl n (subst (λ z. IsSingleStep g rows earleme 0 z n) (step_same item a step s' s) s'')),
  )

  pub twice_none : (item : Item) → ((n : Item) → ¬ IsSingleStep g rows earleme from item n) → IsTrue false ↔ StepsTwice g rows earleme from item
  twice_none item none = (λ t. absurd (cc), λ (a, s, more). absurd (none a s))

  pub twice_before : (are : AreRows g rows) (item : Item) → item.origin < from → IsTrue false ↔ StepsTwice g rows earleme from item
  twice_before are item before = (
    λ t. absurd (cc),
    λ (step, (lt, (leo, l, same), le), more). (
        let (rule, low) = leo_inside g rows are l in
        let at = ap (λ (z : Item). z.origin) same in
        absurd (omega (arith, before, low, at, le))),
  )

  -- from none of some items two steps lead on
  abbrev pub NoneStepsTwice : List Item → Type 0
  NoneStepsTwice items = (item : Item) → Contains items item → ¬ StepsTwice g rows earleme from item

  pub none_twice_more : (items : List Item) (k : ℕ) (x : Item) → slice_get items k ≡ Some x → NoneStepsTwice (take k items) → (¬ StepsTwice g rows earleme from x) → NoneStepsTwice (take (k + 1) items)
  none_twice_more items k x e none not item there twice =
      let (lt, same) = get_index items k x x e in
      elim (Contains-push_cases (take k items) x item (subst (λ l. Contains l item) (take_more items k x lt ∙ ap (λ z. take k items ++ z ∷ []) same) there)) [
        | inl o ↦ none item o twice
        | inr s ↦ not (subst (StepsTwice g rows earleme from) (sym s) twice)
      ]

  module _ (items : List Item) (lists : IsListOf (λ item. Contains (row_at rows earleme) item × IsWhole g item) items) where
    pub some_twice : (item : Item) → Contains items item → StepsTwice g rows earleme from item → IsTrue true ↔ SomeStepsTwiceIn g rows earleme from
    some_twice item there twice = (λ _. (item, (lists.exact item).0 there, twice), λ _. refl)

    pub none_twice : NoneStepsTwice items → IsTrue false ↔ SomeStepsTwiceIn g rows earleme from
    none_twice none = (λ t. absurd (cc), λ (item, is, twice). absurd (none item ((lists.exact item).1 is) twice))
