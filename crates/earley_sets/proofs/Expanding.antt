-- The hidden items of a recognizer's set.
use Rattle.std.proofs.Common.{◌≡◌, ◌↔◌, ◌⊎◌, ℕ, ◌-◌, ◌<◌, ◌≤◌, List, [], length, Contains, sym, subst, arith}
use Rattle.finite_sets.proofs.Lists.{Contains-none}
use Rattle.std.specs.Prelude.{slice_index}
use Rattle.grammar_model.specs.declared.Edge.{Edge as HeldEdge}
use Rattle.grammar_model.specs.Derives.{Held}
use Rattle.recognizer_model.specs.declared.Item.{Item}
use Rattle.recognizer_model.specs.Flat.{FlatGrammar}
use Rattle.recognizer_model.specs.FlatForm.{FlatEdges}
use Rattle.recognizer_model.specs.Items.{IsWhole, InSet}
use Rattle.recognizer_model.specs.Leo.{IsHidden}
use Rattle.recognizer_model.specs.Counts.{IsListOf}
use Rattle.item_rows.specs.Rows.{row_at}
use Rattle.leo_items.specs.Memo.{Note}
use Rattle.leo_items.specs.Hidden.{IsHiddenIn}
use Rattle.earley_sets.specs.Recognizer.{IsKept}
use Rattle.earley_sets.proofs.Hiding.{hidden_is, all_there}
use Rattle.earley_sets.proofs.Recognizing.{recognizer, kept_top, kept_sets}

-- where none is hidden, none is listed
pub lists_none : (g : FlatGrammar) (start : ℕ) (edges : List HeldEdge) (rows : List (List Item)) (top : ℕ) (notes : List Note) (k : IsKept (recognizer g start edges rows notes) top notes) (j from : ℕ) → j ≤ length rows - 1 →
    ((item : Item) → from ≤ item.origin → ¬ IsHidden g (FlatEdges g (Held edges)) (slice_index g.tops start) j item) → (items : List Item) → items ≡ [] → IsListOf (IsHiddenIn g rows j from) items
lists_none g start edges rows top notes k j from le none items empty = subst (IsListOf (IsHiddenIn g rows j from)) (sym empty) (record {
  once = λ i l d lt below e. absurd (omega arith);
  exact = λ item. (
    λ h. absurd (Contains-none item h),
    λ h. (
        let some = k.is.some in
        let inside : j < length rows = omega arith in
        let (hidden, late) = (hidden_is g edges top (kept_top g start edges rows top notes k) k.is.forward rows k.rows (kept_sets g start edges rows top notes k) j from inside item).0 h in
        absurd (none item late (subst (λ t. IsHidden g (FlatEdges g (Held edges)) t j item) k.top_is hidden))
        ),
  );
})

module _ (g : FlatGrammar) (start : ℕ) (edges : List HeldEdge) (rows : List (List Item)) (top : ℕ) (notes : List Note) (k : IsKept (recognizer g start edges rows notes) top notes)
    (j from : ℕ) (le : j ≤ length rows - 1) (items : List Item) (lists : IsListOf (IsHiddenIn g rows j from) items) where
  inside : j < length rows
  inside = let s = k.is.some in omega arith

  pub lists_hidden : IsListOf (λ item. IsHidden g (FlatEdges g (Held edges)) (slice_index g.tops start) j item × (from ≤ item.origin)) items
  lists_hidden = record {
    once = lists.once;
    exact = λ item. (
        let is = subst (λ t. IsHiddenIn g rows j from item ↔ (IsHidden g (FlatEdges g (Held edges)) t j item × (from ≤ item.origin))) k.top_is
        (hidden_is g edges top (kept_top g start edges rows top notes k) k.is.forward rows k.rows (kept_sets g start edges rows top notes k) j from inside item) in
        ((λ h. is.0 ((lists.exact item).0 h)), (λ h. (lists.exact item).1 (is.1 h)))
        );
  }

  pub lists_full : (item : Item) → IsWhole g item → from ≤ item.origin → (Contains (row_at rows j) item ⊎ Contains items item) ↔ InSet g (FlatEdges g (Held edges)) (slice_index g.tops start) j item
  lists_full item w l = subst (λ t. (Contains (row_at rows j) item ⊎ Contains items item) ↔ InSet g (FlatEdges g (Held edges)) t j item) k.top_is
      (all_there g edges top (kept_top g start edges rows top notes k) k.is.forward rows k.rows (kept_sets g start edges rows top notes k) j from inside items lists item w l)
