-- What is listed of kept and hidden items are parts, and of the parts that no single step leads on from none is left out.
use Rattle.std.proofs.Common.{◌≡◌, ◌⊎◌, inl, inr, ℕ, ◌<◌, ◌≤◌, List, Contains, ◌∙◌, subst, arith}
use Rattle.grammar_model.specs.declared.Ranking.{Ranking}
use Rattle.grammar_model.specs.Grammar.{Grammar}
use Rattle.recognizer_model.specs.declared.Item.{Item}
use Rattle.recognizer_model.specs.Flat.{lhs_of}
use Rattle.recognizer_model.specs.Items.{InSet}
use Rattle.recognizer_model.specs.Leo.{IsNotLeo, LeadsTo, LeoIsKnown, InReduced, InExpanded, Kept, Step, IsHidden}
use Rattle.recognizer_model.proofs.Leo.{kept_or_left, whole_kept, expands_to_all}
use Rattle.recognizer_model.proofs.Once.{known_by_reduced}
use Rattle.leo_items.proofs.Adding.{decide}
use Rattle.earley_sets.specs.Recognizer.{Recognizer, IsRecognizer, earleme_of, set_at, edges_of, top_of}
use Rattle.earley_sets.specs.Below.{IsBottom}
use Rattle.forest_parts.specs.declared.parts.Part.{Part}
use Rattle.forest_parts.specs.Parts.{IsPartAt, IsPartBy}
use Rattle.forest_parts.proofs.Sets.{at_top, goes, kept_inside, hidden_inside}

module _ (r : Recognizer) (is : IsRecognizer r) (end : ℕ) (le : end ≤ earleme_of r) where
  pub leo_known : LeoIsKnown r.flat (edges_of r) (top_of r) end
  leo_known = known_by_reduced r.flat (edges_of r) (top_of r) (at_top r is) (goes r is) end (λ i lt. (set_at r i, (is.exact i (let s = is.some in omega arith)).exact))

  pub kept_exact : (item : Item) → (Contains (set_at r end) item → InReduced r.flat (edges_of r) (top_of r) end item) × (InReduced r.flat (edges_of r) (top_of r) end item → Contains (set_at r end) item)
  kept_exact item = let e = (is.exact end (let s = is.some in omega arith)).exact item in (e.0, e.1)

  -- an item of the full set is kept or hidden
  pub kept_or_hidden : (item : Item) → InSet r.flat (edges_of r) (top_of r) end item → Contains (set_at r end) item ⊎ IsHidden r.flat (edges_of r) (top_of r) end item
  kept_or_hidden item s = elim (decide (set_at r end) item) [
    | inl c ↦ inl c
    | inr none ↦ inr ((expands_to_all r.flat (edges_of r) (top_of r) (at_top r is) (goes r is) end leo_known item).1 s, λ k. none ((kept_exact item).1 k))
  ]

  -- where no single step leads on, it is kept
  pub stays : (item : Item) → InSet r.flat (edges_of r) (top_of r) end item → IsNotLeo r.flat (edges_of r) (top_of r) item.origin (lhs_of r.flat item.rule) → Contains (set_at r end) item
  stays item s none =
      (kept_exact item).1 (whole_kept r.flat (edges_of r) (top_of r) (at_top r is) (goes r is) (kept_or_left r.flat (edges_of r) (top_of r) (at_top r is) (goes r is) s leo_known) none)

  -- below a topmost item a kept one stands at the bottom
  pub bottom_of : {j : ℕ} {item t : Item} → j ≡ end → InExpanded r.flat (edges_of r) (top_of r) j item → (¬ Contains (set_at r end) item) → LeadsTo r.flat (edges_of r) (top_of r) item.origin (lhs_of r.flat item.rule) t → (b : Item) × IsBottom r end t b
  bottom_of {item = item} e (Kept k) none leads = absurd (none ((kept_exact item).1 (subst (λ j. InReduced r.flat (edges_of r) (top_of r) j item) e k)))
  bottom_of e (Step {whole = w} s full lt leo) none leads = elim (decide (set_at r end) w) [
    | inl c ↦ (w, (c, full, subst (λ j. w.origin < j) e lt, LeadsTo.On leo leads))
    | inr out ↦ bottom_of e s out (LeadsTo.On leo leads)
  ]

module _ (w : Grammar) (ranking : Ranking) (r : Recognizer) (is : IsRecognizer r) (end least : ℕ) (le : end ≤ earleme_of r) (given : List Item)
    (hidden : (item : Item) → Contains given item → IsHidden r.flat (edges_of r) (top_of r) end item) (p : Part) where
  pub listed_part : IsPartBy w ranking r end least given p → IsPartAt w ranking r end least p
  listed_part (inl (e, (held, to), (late, edge))) =
      let s = edge.start in
      let t = edge.end in
      (inl (e, held, edge), edge.end ∙ to, omega arith)
  listed_part (inr (item, h, (late, whole))) =
      let s = whole.start in
      let t = whole.end in
      let inside : InSet r.flat (edges_of r) (top_of r) end item = elim h [ inl c ↦ kept_inside r is end item le c | inr g ↦ hidden_inside r is end item (hidden item g) ] in
      (inr (end, item, le, inside, whole), whole.end, omega arith)
