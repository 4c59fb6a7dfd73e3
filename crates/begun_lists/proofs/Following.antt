-- What skipping makes of an item, and what follows from one.
use Rattle.std.proofs.Common.{◌≡◌, ℕ, ◌++◌, ◌↔◌, ◌⊎◌, inl, inr, List, [], ◌∷◌, Contains, sym, subst, arith}
use Rattle.std.proofs.lemmas.List.Elements.{Contains-append_left, Contains-push, Contains-push_cases}
use Rattle.std.proofs.lemmas.Option.{slice_get_within}
use Rattle.recognizer_model.specs.declared.Item.{Item}
use Rattle.recognizer_model.specs.Flat.{FlatGrammar, rhs_of, IsNullable}
use Rattle.recognizer_model.specs.Items.{advanced}
use Rattle.finite_sets.proofs.Lists.{Contains-none}
use Rattle.item_rows.specs.Kept.{IsItem, IsRowOf, AreRows}
use Rattle.leo_items.proofs.Chains.{leads_item}
use Rattle.begun_lists.specs.Closing.{IsSkipped, Follows, Predicts, Skips, Completes, Leaps}

-- an item skipped over the symbol that it waits for
module _ (g : FlatGrammar) (item : Item) (x : ℕ) (old : List Item) where
  pub has_skipped : (new : List Item) → new ≡ old ++ advanced item ∷ [] → IsNullable g x → (other : Item) → Contains new other ↔ (Contains old other ⊎ IsSkipped g item x other)
  has_skipped new e n other = subst (λ l. Contains l other ↔ (Contains old other ⊎ IsSkipped g item x other)) (sym e) (
    λ h. elim (Contains-push_cases old (advanced item) other h) [ inl o ↦ inl o | inr same ↦ inr (n, sym same) ],
    λ h. elim h [ inl o ↦ Contains-append_left old (advanced item ∷ []) other o | inr (n', same) ↦ subst (Contains (old ++ advanced item ∷ [])) (sym same) (Contains-push old (advanced item)) ],
  )

  pub none_skipped : (¬ IsNullable g x) → (other : Item) → Contains old other ↔ (Contains old other ⊎ IsSkipped g item x other)
  none_skipped none other = (λ o. inl o, λ h. elim h [ inl o ↦ o | inr (n, same) ↦ absurd (none n) ])

-- no rows, and what is of them
pub nothing_there : (g : FlatGrammar) (i : ℕ) → IsRowOf g i []
nothing_there g i = record {
  items = λ item h. absurd (Contains-none item h);
  begun = λ item h. absurd (Contains-none item h);
}

pub no_rows : (g : FlatGrammar) → AreRows g []
no_rows g i = nothing_there g i

-- what follows from an item is one
pub follows_item : (g : FlatGrammar) (rows : List (List Item)) (earleme : ℕ) (item : Item) → IsItem g item → AreRows g rows →
    (other : Item) → Follows g rows earleme item other → IsItem g other
follows_item g rows earleme item is are other (Predicts e rule l) = record { is_rule = rule; within = omega arith }
follows_item g rows earleme item is are other (Skips {x = x} e n) = record { is_rule = is.is_rule; within = slice_get_within (rhs_of g item.rule) item.dot x e }
follows_item g rows earleme item is are other (Leaps whole lt leads) = leads_item g rows are leads
follows_item g rows earleme item is are other (Completes {waiting = w} whole lt none i e) =
    let is' = (are item.origin).items w i in record { is_rule = is'.is_rule; within = slice_get_within (rhs_of g w.rule) w.dot _ e }
