-- Over reduced sets, what single steps lead to from whole items are the hidden items.
use Rattle.std.proofs.Common.{◌≡◌, ◌↔◌, ◌⊎◌, inl, inr, ℕ, ◌<◌, ◌≤◌, List, length, Contains, refl, sym, subst, arith}
use Rattle.grammar_model.specs.declared.Edge.{Edge as HeldEdge}
use Rattle.grammar_model.specs.Derives.{Edges, Held}
use Rattle.recognizer_model.specs.declared.Item.{Item}
use Rattle.recognizer_model.specs.Flat.{FlatGrammar, lhs_of}
use Rattle.recognizer_model.specs.FlatForm.{FlatEdges}
use Rattle.recognizer_model.specs.Items.{IsWhole, InSet}
use Rattle.recognizer_model.specs.Contexts.{IsTop}
use Rattle.recognizer_model.specs.Leo.{IsLeo, LeadsTo, GoesForward, InReduced, InExpanded, IsHidden}
use Rattle.recognizer_model.specs.Counts.{IsListOf}
use Rattle.recognizer_model.proofs.Leo.{origin_below, reduced_inside, expanded_inside, expands_to_all}
use Rattle.recognizer_model.proofs.Over.{hidden_whole}
use Rattle.item_rows.specs.Rows.{row_at}
use Rattle.item_rows.specs.Kept.{AreRows}
use Rattle.earley_sets.specs.Scanning.{GoForward, AreReduced}
use Rattle.leo_items.specs.Hidden.{IsStepped, Kept, Step, IsHiddenIn}
use Rattle.leo_items.proofs.Adding.{decide}
use Rattle.earley_sets.proofs.ByRows.{goes_forward, known, to_leo, from_leo}
use Rattle.leo_items.proofs.Hiding.{stepped_whole}

-- over reduced sets these are the hidden items
module _ (g : FlatGrammar) (edges : List HeldEdge) (top : ℕ) (is_top : IsTop g top) (forward : GoForward edges) (rows : List (List Item)) (are : AreRows g rows) (sets : AreReduced g edges top rows (length rows))
    (earleme from : ℕ) (here : earleme < length rows) where
  in_expanded : {item : Item} → IsStepped g rows earleme from item → InExpanded g (FlatEdges g (Held edges)) top earleme item
  in_expanded {item} (Kept (c, w, le)) = InExpanded.Kept ((sets earleme here item).0 c)
  in_expanded (Step {item = before} s (lt, (leo, l, same), le)) =
      subst (InExpanded g (FlatEdges g (Held edges)) top earleme) (sym same)
      (InExpanded.Step (in_expanded s) (stepped_whole g rows are earleme from s).0 lt (to_leo g edges top is_top forward rows (length rows) sets before.origin (lhs_of g before.rule) leo (omega arith) l))

  in_stepped : {j : ℕ} {item : Item} → InExpanded g (FlatEdges g (Held edges)) top j item → j ≡ earleme → IsWhole g item → from ≤ item.origin → IsStepped g rows earleme from item
  in_stepped {item = item} (InExpanded.Kept k) e w le = Kept ((sets earleme here item).1 (subst (λ p. InReduced g (FlatEdges g (Held edges)) top p item) e k), w, le)
  in_stepped (InExpanded.Step {whole = before} {item = leo} x whole lt l) e w le =
      let b = origin_below g (FlatEdges g (Held edges)) top is_top (goes_forward g edges top is_top forward) l.inside in
      Step (in_stepped x e whole (omega arith)) (omega arith, (leo, from_leo g edges top is_top forward rows (length rows) sets before.origin (lhs_of g before.rule) leo (omega arith) l, refl), le)

  pub hidden_is : (item : Item) → IsHiddenIn g rows earleme from item ↔ (IsHidden g (FlatEdges g (Held edges)) top earleme item × (from ≤ item.origin))
  hidden_is item = (
    λ (s, none). ((in_expanded s, λ k. none ((sets earleme here item).1 k)), (stepped_whole g rows are earleme from s).1),
    λ (h, le). (
      in_stepped h.0 refl (hidden_whole g (FlatEdges g (Held edges)) top is_top (goes_forward g edges top is_top forward) h).0 le,
      λ c. h.1 ((sets earleme here item).0 c),
    ),
  )

  pub all_there : (items : List Item) → IsListOf (IsHiddenIn g rows earleme from) items → (item : Item) → IsWhole g item → from ≤ item.origin →
      (Contains (row_at rows earleme) item ⊎ Contains items item) ↔ InSet g (FlatEdges g (Held edges)) top earleme item
  all_there items lists item w le = (
    λ h. elim h [
      | inl c ↦ reduced_inside g (FlatEdges g (Held edges)) top is_top (goes_forward g edges top is_top forward) ((sets earleme here item).0 c)
      | inr m ↦ expanded_inside g (FlatEdges g (Held edges)) top is_top (goes_forward g edges top is_top forward) (in_expanded ((lists.exact item).0 m).0)
    ],
    λ s. (
        let x = (expands_to_all g (FlatEdges g (Held edges)) top is_top (goes_forward g edges top is_top forward) earleme (λ i y l. known g edges top is_top forward rows (length rows) sets i y (omega arith)) item).1 s in
        elim (decide (row_at rows earleme) item) [ inl c ↦ inl c | inr none ↦ inr ((lists.exact item).1 (in_stepped x refl w le, none)) ]
        ),
  )

-- where no two single steps lead on from a kept whole item, of which the first leads to one that begins at a place or after it, all items of the expanded set that begin so are kept
module _ (g : FlatGrammar) (E : Edges) (top : ℕ) (is_top : IsTop g top) (forward : GoesForward E) (from : ℕ) where
  abbrev pub NoneStepsTwice : (j : ℕ) → Type 0
  NoneStepsTwice j = (whole leo above : Item) → InReduced g E top j whole → IsWhole g whole → whole.origin < j → IsLeo g E top whole.origin (lhs_of g whole.rule) leo → from ≤ leo.origin → ¬ IsLeo g E top leo.origin (lhs_of g leo.rule) above

  pub expanded_kept : {j : ℕ} {item : Item} → NoneStepsTwice j → InExpanded g E top j item → from ≤ item.origin → InReduced g E top j item
  expanded_kept none (InExpanded.Kept k) le = k
  expanded_kept none (InExpanded.Step {whole = before} {item = leo} x whole lt l) le =
      let low = origin_below g E top is_top forward l.inside in
      let k = expanded_kept none x (omega (arith, low, le)) in
      InReduced.Leap k whole lt (LeadsTo.Last l (λ above up. none before leo above k whole lt l le up))
