-- The items of a set that are not kept and lead to some items: what single steps lead to from the kept ones that do.
use Rattle.std.proofs.Common.{◌≡◌, ◌≢◌, ◌↔◌, ◌⊎◌, inl, inr, ℕ, ◌<◌, ◌++◌, List, Contains, sym, ◌∙◌, ap, subst, arith}
use Rattle.std.specs.List.{AllPairs}
use Rattle.std.proofs.lemmas.List.Elements.{Contains-append_left, Contains-append_right, Contains-append_cases}
use Rattle.recognizer_model.specs.declared.Item.{Item}
use Rattle.recognizer_model.specs.Flat.{FlatGrammar, lhs_of}
use Rattle.recognizer_model.specs.Items.{advanced}
use Rattle.recognizer_model.specs.Counts.{IsListOf}
use Rattle.item_rows.specs.Rows.{row_at}
use Rattle.item_rows.specs.Kept.{AreItems, AreRows}
use Rattle.leo_items.specs.ByRows.{IsLeoIn, IsNotLeoIn, LeadsIn}
use Rattle.leo_items.proofs.Chains.{has_leo, leo_inside, leads_item}
use Rattle.leo_items.specs.Closed.{IsReached, Seed}
use Rattle.leo_items.specs.Closed as closing
use Rattle.leo_items.specs.Hidden.{IsSingleStep, IsStepped, Kept, Step}
use Rattle.leo_items.specs.Hidden.{IsBottomIn, IsBottomOf, IsBelowOf}
use Rattle.leo_items.proofs.Adding.{decide}
use Rattle.leo_items.proofs.Hiding.{stepped_whole}

module _ (g : FlatGrammar) (rows : List (List Item)) where
  -- above a topmost item there is no step
  pub ends : {i x : ℕ} {t : Item} → LeadsIn g rows i x t → IsNotLeoIn g rows t.origin (lhs_of g t.rule)
  ends (LeadsIn.Last leo none) = none
  ends (LeadsIn.On leo more) = ends more

  -- one step on stands the topmost item, or one that leads to it
  step_leads : {i x : ℕ} {leo t : Item} → IsLeoIn g rows i x leo → LeadsIn g rows i x t → (advanced leo ≡ t) ⊎ LeadsIn g rows leo.origin (lhs_of g leo.rule) t
  step_leads {leo = leo} l (LeadsIn.Last {item = a} up none) = inl (ap advanced (up.only leo l.there l.waits))
  step_leads {leo = leo} {t = t} l (LeadsIn.On {item = a} up more) = inr (subst (λ o. LeadsIn g rows o.origin (lhs_of g o.rule) t) (sym (up.only leo l.there l.waits)) more)

module _ (g : FlatGrammar) (rows : List (List Item)) (are : AreRows g rows) (earleme : ℕ) (topmost : Item) where
  -- from whatever is stepped over to the topmost item
  up_from : (before item : Item) → IsSingleStep g rows earleme 0 before item → LeadsIn g rows item.origin (lhs_of g item.rule) topmost → LeadsIn g rows before.origin (lhs_of g before.rule) topmost
  up_from before item (lt, (leo, l, same), le) leads = LeadsIn.On l (subst (λ o. LeadsIn g rows o.origin (lhs_of g o.rule) topmost) same leads)

  -- what is hidden below the item was stepped to from a kept one
  bottom_of : {item : Item} → IsStepped g rows earleme 0 item → (¬ Contains (row_at rows earleme) item) → LeadsIn g rows item.origin (lhs_of g item.rule) topmost → (b : Item) × IsBottomIn g rows earleme topmost b
  bottom_of (Kept (c, w, le)) none leads = absurd (none c)
  bottom_of (Step {item = before} s f) none leads = elim (decide (row_at rows earleme) before) [
    | inl c ↦ (before, (c, (stepped_whole g rows are earleme 0 s).0, f.0, up_from before _ f leads))
    | inr out ↦ bottom_of s out (up_from before _ f leads)
  ]

module _ (g : FlatGrammar) (rows : List (List Item)) (are : AreRows g rows) (earleme : ℕ) (tops : List Item) where
  abbrev pub AreFirst : List Item → Type 0
  AreFirst seeds = (item : Item) → Contains seeds item ↔ (Contains tops item ⊎ IsBottomOf g rows earleme tops item)

  -- the topmost items, and then the kept ones
  pub are_first : (bottoms : List Item) → ((item : Item) → Contains bottoms item ↔ IsBottomOf g rows earleme tops item) → AreFirst (tops ++ bottoms)
  are_first bottoms exact item = (
    λ h. elim (Contains-append_cases tops bottoms item h) [ inl t ↦ inl t | inr b ↦ inr ((exact item).0 b) ],
    λ h. elim h [ inl t ↦ Contains-append_left tops bottoms item t | inr b ↦ Contains-append_right tops bottoms item ((exact item).1 b) ],
  )

  -- something leads to each of the topmost items
  abbrev pub HaveBottoms : Type 0
  HaveBottoms = (t : Item) → Contains tops t → (b : Item) × IsBottomIn g rows earleme t b

  pub first_items : (seeds : List Item) → AreFirst seeds → HaveBottoms → AreItems g seeds
  first_items seeds first some item h = elim ((first item).0 h) [
    | inl t ↦ (let (b, (there, full, before, up)) = some item t in leads_item g rows are up)
    | inr (t, th, (c, w, lt, leads)) ↦ (are earleme).items item c
  ]

  -- above a topmost item there is no step
  pub top_ends : HaveBottoms → (item leo : Item) → Contains tops item → IsLeoIn g rows item.origin (lhs_of g item.rule) leo → ⊥
  top_ends some item leo h l = let (b, (c, w, lt, leads)) = some item h in ends g rows leads leo l

  module _ (seeds more : List Item) (first : AreFirst seeds) (some : HaveBottoms)
      (reached : (item : Item) → Contains (seeds ++ more) item ↔ IsReached (IsSingleStep g rows earleme 0) seeds item) (apart : (item : Item) → Contains more item → ¬ Contains seeds item) (once : AllPairs (λ x y. x ≢ y) more) where
    abbrev Stands : Item → Type 0
    Stands item = IsStepped g rows earleme 0 item × (item.origin < earleme) × ((t : Item) × Contains tops t × LeadsIn g rows item.origin (lhs_of g item.rule) t)

    step_to : (before item : Item) → Stands before → IsSingleStep g rows earleme 0 before item → Contains tops item ⊎ Stands item
    step_to before item (s, before_here, (t, th, leads)) (lt, (leo, l, same), le) = elim (step_leads g rows l leads) [
      | inl e ↦ inl (subst (Contains tops) (sym (same ∙ e)) th)
      | inr on ↦ inr (
        Step s (lt, (leo, l, same), le),
        subst (λ (o : Item). o.origin < earleme) (sym same) (let (r, b) = leo_inside g rows are l in omega arith),
        (t, th, subst (λ o. LeadsIn g rows o.origin (lhs_of g o.rule) t) (sym same) on),
      )
    ]

    to_stands : (item : Item) → IsReached (IsSingleStep g rows earleme 0) seeds item → Contains tops item ⊎ Stands item
    to_stands item (Seed h) = elim ((first item).0 h) [
      | inl t ↦ inl t
      | inr (t, th, (c, w, lt, leads)) ↦ inr (Kept (c, w, omega arith), lt, (t, th, leads))
    ]
    to_stands item (closing.Step {item = before} r f) = elim (to_stands before r) [
      | inl t ↦ (let (lt, (leo, l, same), le) = f in absurd (top_ends some before leo t l))
      | inr s ↦ step_to before item s f
    ]

    from_below : (t : Item) → Contains tops t → {item : Item} → IsStepped g rows earleme 0 item → (¬ Contains (row_at rows earleme) item) → LeadsIn g rows item.origin (lhs_of g item.rule) t → IsReached (IsSingleStep g rows earleme 0) seeds item
    from_below t th (Kept (c, w, le)) none leads = absurd (none c)
    from_below t th (Step {item = before} s f) none leads = elim (decide (row_at rows earleme) before) [
      | inl c ↦ closing.Step (Seed ((first before).1 (inr (t, th, (c, (stepped_whole g rows are earleme 0 s).0, f.0, up_from g rows are earleme t before _ f leads))))) f
      | inr out ↦ closing.Step (from_below t th s out (up_from g rows are earleme t before _ f leads)) f
    ]

    -- those are neither topmost items nor kept
    not_first : (item : Item) → IsBelowOf g rows earleme tops item → Contains seeds item → ⊥
    not_first item (t, th, (h, leads)) k = elim ((first item).0 k) [
      | inl e ↦ (let (leo, l) = has_leo g rows leads in top_ends some item leo e l)
      | inr (t', th', (c, w, lt, leads')) ↦ h.1 c
    ]

    -- what was stepped to is not among the first ones
    is_below : (item : Item) → Contains more item → Contains tops item ⊎ Stands item → IsBelowOf g rows earleme tops item
    is_below item h (inl e) = absurd (apart item h ((first item).1 (inl e)))
    is_below item h (inr (s, lt, (t, th, leads))) =
        (t, th, ((s, λ c. apart item h ((first item).1 (inr (t, th, (c, (stepped_whole g rows are earleme 0 s).0, lt, leads))))), leads))

    pub below_listed : IsListOf (IsBelowOf g rows earleme tops) more
    below_listed = record {
      once = once;
      exact = λ item. (
        λ h. is_below item h (to_stands item ((reached item).0 (Contains-append_right seeds more item h))),
        λ (t, th, (b, leads)). elim (Contains-append_cases seeds more item ((reached item).1 (from_below t th b.0 b.1 leads))) [ inl k ↦ absurd (not_first item (t, th, (b, leads)) k) | inr m ↦ m ],
      );
    }
