-- What recognizers tell of the full sets.
use Rattle.std.proofs.Common.{◌≡◌, ◌↔◌, ◌⊎◌, inl, inr, ℕ, ◌<◌, ◌≤◌, List, length, Some, Contains, refl, arith}
use Rattle.recognizer_model.specs.declared.Item.{Item}
use Rattle.recognizer_model.specs.Items.{after, InSet}
use Rattle.recognizer_model.specs.Contexts.{IsTop}
use Rattle.recognizer_model.specs.Leo.{IsHidden, GoesForward, LeoIsKnown}
use Rattle.recognizer_model.specs.Counts.{IsListOf}
use Rattle.recognizer_model.proofs.Leo.{reduced_inside, expanded_inside, keeps_waiting, expands_to_all}
use Rattle.earley_sets.specs.Scanning.{AreReduced}
use Rattle.earley_sets.specs.Recognizer.{Recognizer, IsRecognizer, set_at, edges_of, top_of}
use Rattle.earley_sets.proofs.ByRows.{goes_forward, known}
use Rattle.leo_items.proofs.Adding.{decide}
use Rattle.earley_sets.proofs.Recognizing.{top_is_top}

module _ (r : Recognizer) (is : IsRecognizer r) where
  is_top : IsTop r.flat (top_of r)
  is_top = top_is_top r.flat r.start (top_of r) is.flat is.start refl

  goes : GoesForward (edges_of r)
  goes = goes_forward r.flat r.edges (top_of r) is_top is.forward

  reduced : AreReduced r.flat r.edges (top_of r) r.sets (length r.sets)
  reduced i lt item = (is.exact i lt).exact item

  known_to : (j : ℕ) → j < length r.sets → LeoIsKnown r.flat (edges_of r) (top_of r) j
  known_to j lt i x l = known r.flat r.edges (top_of r) is_top is.forward r.sets (length r.sets) reduced i x (omega arith)

  -- an item that waits is kept exactly where it is in the full set
  pub waits_exact : (j x : ℕ) (item : Item) → j < length r.sets → after r.flat item ≡ Some x → Contains (set_at r j) item ↔ InSet r.flat (edges_of r) (top_of r) j item
  waits_exact j x item lt e =
      let kept = keeps_waiting r.flat (edges_of r) (top_of r) is_top goes j (known_to j lt) item x e in
      let there = reduced j lt item in
      ((λ c. kept.0 (there.0 c)), (λ i. there.1 (kept.1 i)))

  -- with the hidden items the sets are full
  pub full_exact : (j : ℕ) (hidden : List Item) → j < length r.sets → IsListOf (λ item. IsHidden r.flat (edges_of r) (top_of r) j item × (0 ≤ item.origin)) hidden →
      (item : Item) → (Contains (set_at r j) item ⊎ Contains hidden item) ↔ InSet r.flat (edges_of r) (top_of r) j item
  full_exact j hidden lt lists item = (
    λ h. elim h [
      | inl c ↦ reduced_inside r.flat (edges_of r) (top_of r) is_top goes ((reduced j lt item).0 c)
      | inr m ↦ expanded_inside r.flat (edges_of r) (top_of r) is_top goes ((lists.exact item).0 m).0.0
    ],
    λ s. elim (decide (set_at r j) item) [
      | inl c ↦ inl c
      | inr none ↦
          let x = (expands_to_all r.flat (edges_of r) (top_of r) is_top goes j (known_to j lt) item).1 s in
          inr ((lists.exact item).1 ((x, λ k. none ((reduced j lt item).1 k)), omega arith))
    ],
  )
