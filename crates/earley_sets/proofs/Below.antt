-- Over reduced sets, what is not kept and leads to an item are the hidden items below it.
use Rattle.std.proofs.Common.{◌≡◌, ◌↔◌, ℕ, ◌-◌, ◌<◌, ◌≤◌, List, length, Contains, refl, subst, arith}
use Rattle.std.specs.Prelude.{slice_index}
use Rattle.grammar_model.specs.declared.Edge.{Edge as HeldEdge}
use Rattle.grammar_model.specs.Derives.{Held}
use Rattle.recognizer_model.specs.declared.Item.{Item}
use Rattle.recognizer_model.specs.Flat.{FlatGrammar, lhs_of}
use Rattle.recognizer_model.specs.FlatForm.{FlatEdges}
use Rattle.recognizer_model.specs.Items.{IsWhole, advanced}
use Rattle.recognizer_model.specs.Contexts.{IsTop}
use Rattle.recognizer_model.specs.Leo.{IsLeo, LeadsTo, GoesForward, InReduced, IsHidden}
use Rattle.recognizer_model.specs.Below.{IsBelow}
use Rattle.recognizer_model.specs.Counts.{IsListOf}
use Rattle.recognizer_model.proofs.Over.{hidden_whole}
use Rattle.recognizer_model.proofs.Leo.{origin_below}
use Rattle.item_rows.specs.Rows.{row_at}
use Rattle.item_rows.specs.Kept.{AreRows}
use Rattle.leo_items.specs.Memo.{Note}
use Rattle.earley_sets.specs.Scanning.{GoForward, AreReduced}
use Rattle.leo_items.specs.Hidden.{IsSingleStep, SomeStepsTwiceIn}
use Rattle.leo_items.specs.Hidden.{LeadsUpIn, IsBottomIn, IsBelowIn, IsBottomOf, IsBelowOf}
use Rattle.earley_sets.specs.Recognizer.{IsKept}
use Rattle.earley_sets.proofs.ByRows.{goes_forward, to_leo, from_leo, to_leads, from_leads}
use Rattle.earley_sets.proofs.Hiding.{hidden_is, expanded_kept}
use Rattle.earley_sets.proofs.Recognizing.{recognizer, kept_top, kept_sets}

-- over reduced sets these are the hidden items below the item
module _ (g : FlatGrammar) (edges : List HeldEdge) (top : ℕ) (is_top : IsTop g top) (forward : GoForward edges) (rows : List (List Item)) (are : AreRows g rows) (sets : AreReduced g edges top rows (length rows))
    (earleme : ℕ) (here : earleme < length rows) (topmost item : Item) where
  pub below_is : IsBelowIn g rows earleme topmost item ↔ IsBelow g (FlatEdges g (Held edges)) top earleme topmost item
  below_is = (
    λ (h, leads). (
        let hidden = ((hidden_is g edges top is_top forward rows are sets earleme 0 here item).0 h).0 in
        let (w, before) = hidden_whole g (FlatEdges g (Held edges)) top is_top (goes_forward g edges top is_top forward) hidden in
        let lt : item.origin < length rows = omega arith in
        (hidden, to_leads g edges top is_top forward rows (length rows) sets lt leads)
        ),
    λ (h, leads). (
        let (w, before) = hidden_whole g (FlatEdges g (Held edges)) top is_top (goes_forward g edges top is_top forward) h in
        let lt : item.origin < length rows = omega arith in
        ((hidden_is g edges top is_top forward rows are sets earleme 0 here item).1 (h, omega arith), from_leads g edges top is_top forward rows (length rows) sets lt leads)
        ),
  )

  pub up_is : LeadsUpIn g rows earleme item topmost ↔ ((item.origin < earleme) × LeadsTo g (FlatEdges g (Held edges)) top item.origin (lhs_of g item.rule) topmost)
  up_is = (
    λ (before, leads). (let lt : item.origin < length rows = omega arith in (before, to_leads g edges top is_top forward rows (length rows) sets lt leads)),
    λ (before, leads). (let lt : item.origin < length rows = omega arith in (before, from_leads g edges top is_top forward rows (length rows) sets lt leads)),
  )

  pub step_is : IsSingleStep g rows earleme 0 item topmost ↔
      ((item.origin < earleme) × ((leo : Item) × IsLeo g (FlatEdges g (Held edges)) top item.origin (lhs_of g item.rule) leo × (topmost ≡ advanced leo)))
  step_is = (
    λ (before, (leo, l, same), le). (let lt : item.origin < length rows = omega arith in (before, (leo, to_leo g edges top is_top forward rows (length rows) sets item.origin (lhs_of g item.rule) leo lt l, same))),
    λ (before, (leo, l, same)). (
        let lt : item.origin < length rows = omega arith in
        (before, (leo, from_leo g edges top is_top forward rows (length rows) sets item.origin (lhs_of g item.rule) leo lt l, same), omega arith)
        ),
  )

-- of a recognizer
module _ (g : FlatGrammar) (start : ℕ) (edges : List HeldEdge) (rows : List (List Item)) (top : ℕ) (notes : List Note) (k : IsKept (recognizer g start edges rows notes) top notes)
    (j : ℕ) (le : j ≤ length rows - 1) where
  pub there : j < length rows
  there = let s = k.is.some in omega arith

  pub up_there : (item topmost : Item) → LeadsUpIn g rows j item topmost ↔ ((item.origin < j) × LeadsTo g (FlatEdges g (Held edges)) (slice_index g.tops start) item.origin (lhs_of g item.rule) topmost)
  up_there item topmost = subst (λ t. LeadsUpIn g rows j item topmost ↔ ((item.origin < j) × LeadsTo g (FlatEdges g (Held edges)) t item.origin (lhs_of g item.rule) topmost)) k.top_is
      (up_is g edges top (kept_top g start edges rows top notes k) k.is.forward rows k.rows (kept_sets g start edges rows top notes k) j there topmost item)

  abbrev StepsThere : (item other : Item) → Type 0
  StepsThere item other = (item.origin < j) × ((leo : Item) × IsLeo g (FlatEdges g (Held edges)) (slice_index g.tops start) item.origin (lhs_of g item.rule) leo × (other ≡ advanced leo))

  pub step_there : (item other : Item) → IsSingleStep g rows j 0 item other ↔ StepsThere item other
  step_there item other =
      subst (λ t. IsSingleStep g rows j 0 item other ↔ ((item.origin < j) × ((leo : Item) × IsLeo g (FlatEdges g (Held edges)) t item.origin (lhs_of g item.rule) leo × (other ≡ advanced leo)))) k.top_is
      (step_is g edges top (kept_top g start edges rows top notes k) k.is.forward rows k.rows (kept_sets g start edges rows top notes k) j there other item)

  -- two single steps from a kept whole item, by rows and by sets
  module _ (from : ℕ) where
    abbrev pub TwiceThere : Type 0
    TwiceThere = (item : Item) × (Contains (row_at rows j) item × IsWhole g item) × ((step : Item) × (StepsThere item step × (from ≤ step.origin)) × ((next : Item) × StepsThere step next))

    pub twice_there : SomeStepsTwiceIn g rows j from ↔ TwiceThere
    twice_there = (
      λ (item, is, (step, (lt, up, le), (next, n))). (item, is, (step, ((step_there item step).0 (lt, up, omega arith), le), (next, (step_there step next).0 n))),
      λ (item, is, (step, (s, le), (next, n))). (item, is, (step, (let (lt, up, low) = (step_there item step).1 s in (lt, up, le)), (next, (step_there step next).1 n))),
    )

    -- where there are none, nothing is hidden that begins there or after it
    pub none_there : (¬ TwiceThere) → (item : Item) → from ≤ item.origin → ¬ IsHidden g (FlatEdges g (Held edges)) (slice_index g.tops start) j item
    none_there none item le hidden = hidden.1 (expanded_kept g (FlatEdges g (Held edges)) (slice_index g.tops start) is_top forward from (λ whole leo above k w lt l low up. none (
      whole,
      ((k_exact whole).1 k, w),
      (advanced leo, ((lt, (leo, l, refl)), low), (advanced above, (before whole leo lt l, (above, up, refl)))),
    )) hidden.0 le)
      where
        is_top : IsTop g (slice_index g.tops start)
        is_top = subst (IsTop g) k.top_is (kept_top g start edges rows top notes k)

        forward : GoesForward (FlatEdges g (Held edges))
        forward = goes_forward g edges top (kept_top g start edges rows top notes k) k.is.forward

        k_exact : (item : Item) → Contains (row_at rows j) item ↔ InReduced g (FlatEdges g (Held edges)) (slice_index g.tops start) j item
        k_exact = (k.is.exact j there).exact

        before : (whole leo : Item) → whole.origin < j → IsLeo g (FlatEdges g (Held edges)) (slice_index g.tops start) whole.origin (lhs_of g whole.rule) leo → leo.origin < j
        before whole leo lt l = let low = origin_below g (FlatEdges g (Held edges)) (slice_index g.tops start) is_top forward l.inside in omega arith

  abbrev IsBottomThere : (topmost item : Item) → Type 0
  IsBottomThere topmost item = Contains (row_at rows j) item × IsWhole g item × (item.origin < j) × LeadsTo g (FlatEdges g (Held edges)) (slice_index g.tops start) item.origin (lhs_of g item.rule) topmost

  pub bottom_there : (topmost item : Item) → IsBottomThere topmost item → IsBottomIn g rows j topmost item
  bottom_there topmost item (c, w, lt, leads) = let (a, b) = (up_there item topmost).1 (lt, leads) in (c, w, a, b)

  pub bottoms_there : (tops bottoms : List Item) → ((item : Item) → Contains bottoms item ↔ ((topmost : Item) × Contains tops topmost × IsBottomThere topmost item)) → (item : Item) → Contains bottoms item ↔ IsBottomOf g rows j tops item
  bottoms_there tops bottoms exact item = (
    λ h. (let (t, th, b) = (exact item).0 h in (t, th, bottom_there t item b)),
    λ (t, th, (c, w, lt, leads)). (let (a, b) = (up_there item t).0 (lt, leads) in (exact item).1 (t, th, (c, w, a, b))),
  )

  pub lists_below : (tops items : List Item) → IsListOf (IsBelowOf g rows j tops) items →
      IsListOf (λ item. (topmost : Item) × Contains tops topmost × IsBelow g (FlatEdges g (Held edges)) (slice_index g.tops start) j topmost item) items
  lists_below tops items lists = record {
    once = lists.once;
    exact = λ item. (
      λ h. (let (t, th, b) = (lists.exact item).0 h in (t, th, (is t item).0 b)),
      λ (t, th, b). (lists.exact item).1 (t, th, (is t item).1 b),
    );
  }
    where
      is : (topmost item : Item) → IsBelowIn g rows j topmost item ↔ IsBelow g (FlatEdges g (Held edges)) (slice_index g.tops start) j topmost item
      is topmost item = subst (λ t. IsBelowIn g rows j topmost item ↔ IsBelow g (FlatEdges g (Held edges)) t j topmost item) k.top_is
          (below_is g edges top (kept_top g start edges rows top notes k) k.is.forward rows k.rows (kept_sets g start edges rows top notes k) j there topmost item)
