-- A walk along the single steps from some kept items, up to some topmost ones.
use Rattle.std.proofs.Common.{◌≡◌, ◌≢◌, ◌↔◌, ◌⊎◌, ◌==◌, Bool, false, IsTrue, true≢false, inl, inr, ℕ, ◌+◌, ◌<◌, ◌++◌, ◌∷◌, List, [], length, get_or, slice_get, Option, Some, Contains, sym, ◌∙◌, ap, subst, arith, length-append, append_assoc}
use Rattle.std.specs.List.{AllPairs}
use Rattle.std.proofs.lemmas.List.{get_or_append_left, get_or-append-add, get_or_default}
use Rattle.std.proofs.lemmas.List.Elements.{Contains-append_left, Contains-append_right, Contains-append_cases}
use Rattle.std.proofs.lemmas.Option.{slice_get-get_or}
use Rattle.finite_sets.proofs.Lists.{Contains-none, got_at}
use Rattle.recognizer_model.specs.declared.Item.{Item}
use Rattle.recognizer_model.specs.Flat.{FlatGrammar}
use Rattle.recognizer_model.specs.Counts.{IsListOf}
use Rattle.item_rows.specs.Kept.{AreRows}
use Rattle.leo_items.specs.Closed.{Adds, Seed}
use Rattle.leo_items.specs.Hidden.{IsSingleStep, IsBottomOf, IsBelowOf}
use Rattle.leo_items.specs.Walked.{AreGathered, AddsStep, NoStep, IsThere, IsNew, IsWalked}
use Rattle.leo_items.proofs.Growing.{Adds-has}
use Rattle.leo_items.proofs.Hiding.{step_added, none_added}
use Rattle.leo_items.proofs.Loops.{closed_done}
use Rattle.leo_items.proofs.Standing.{are_first, first_items, top_ends, below_listed, HaveBottoms}

-- a look-up in a set of the items of two lists
pub gathered_has : (set tops bottoms : List Item) (item : Item) (b empty : Bool) → AreGathered set tops bottoms → empty ≡ (length set == 0) → empty ≡ false → IsTrue b ↔ Contains set item → IsTrue b ↔ (Contains tops item ⊎ Contains bottoms item)
gathered_has set tops bottoms item b empty (inl none) is some has = absurd (true≢false (sym (is ∙ ap (λ (l : List Item). length l == 0) none) ∙ some))
gathered_has set tops bottoms item b empty (inr exact) is some has = (λ t. (exact item).0 (has.0 t), λ h. has.1 ((exact item).1 h))

-- where the items of two lists stand in both, and in what comes after them
pub first_at : (tops bottoms below : List Item) (i : ℕ) (d : Item) → i < length bottoms → Path (Option Item) (Some (get_or bottoms i d)) (slice_get ((tops ++ bottoms) ++ below) (length tops + i))
first_at tops bottoms below i d lt =
    let two = length-append tops bottoms in
    let all = length-append (tops ++ bottoms) below in
    let same = get_or_append_left (tops ++ bottoms) below d (length tops + i) (omega (arith, lt, two)) ∙ get_or-append-add tops bottoms i d in
    sym (slice_get-get_or ((tops ++ bottoms) ++ below) (length tops + i) d (omega (arith, lt, two, all)) ∙ ap (λ x. Some x) same)

pub later_at : (tops bottoms below : List Item) (k : ℕ) (item : Item) → Path (Option Item) (Some item) (slice_get below k) → Path (Option Item) (Some item) (slice_get ((tops ++ bottoms) ++ below) (length tops + length bottoms + k))
later_at tops bottoms below k item at =
    let two = length-append tops bottoms in
    let all = length-append (tops ++ bottoms) below in
    let (lt, is) = got_at below k item item at in
    let same = ap (λ n. get_or ((tops ++ bottoms) ++ below) (n + k) item) (sym two) ∙ (get_or-append-add (tops ++ bottoms) below k item ∙ is) in
    sym (slice_get-get_or ((tops ++ bottoms) ++ below) (length tops + length bottoms + k) item (omega (arith, lt, two, all)) ∙ ap (λ x. Some x) same)

module _ (g : FlatGrammar) (rows : List (List Item)) (are : AreRows g rows) (earleme : ℕ) (first : List Item) where
  -- one item more after the first ones
  added_after : (old new : List Item) (step : Item) → (¬ Contains first step) → Adds old new step → Adds (first ++ old) (first ++ new) step
  added_after old new step out (inl (e, there)) = inl (ap (λ l. first ++ l) e, Contains-append_right first old step there)
  added_after old new step out (inr (e, none)) = inr (
    ap (λ l. first ++ l) e ∙ sym (append_assoc first old (step ∷ [])),
    λ h. elim (Contains-append_cases first old step h) [ inl f ↦ out f | inr o ↦ none o ],
  )

  pub walked_on : (below : List Item) (j k : ℕ) → j ≡ k → IsWalked g rows earleme first below j → IsWalked g rows earleme first below k
  walked_on below j k e walked = subst (IsWalked g rows earleme first below) e walked

  -- the walk goes over one item more
  pub walked_more : (old new : List Item) (k : ℕ) (item : Item) → Path (Option Item) (Some item) (slice_get (first ++ old) k) → IsWalked g rows earleme first old k → AddsStep (IsSingleStep g rows earleme 0 item) first old new →
      IsWalked g rows earleme first new (k + 1)
  walked_more old new k item at walked (NoStep none) = record { closed = none_added g rows are earleme 0 first (first ++ old) k walked.closed item at none; apart = walked.apart }
  walked_more old new k item at walked (IsThere {step = step} f there) =
      record { closed = step_added g rows are earleme 0 first (first ++ old) k walked.closed item at step (first ++ old) f (inl (λ i. first ++ old, Contains-append_left first old step there)); apart = walked.apart }
  walked_more old new k item at walked (IsNew {step = step} f out adds) = record {
    closed = step_added g rows are earleme 0 first (first ++ old) k walked.closed item at step (first ++ new) f (added_after old new step out adds);
    apart = λ x h. elim ((Adds-has old new step x adds).0 h) [ inl o ↦ walked.apart x o | inr e ↦ subst (λ z. ¬ Contains first z) e out ];
  }

module _ (g : FlatGrammar) (rows : List (List Item)) (are : AreRows g rows) (earleme : ℕ) (tops bottoms : List Item)
    (exact : (item : Item) → Contains bottoms item ↔ IsBottomOf g rows earleme tops item) (some : HaveBottoms g rows are earleme tops) where
  -- nothing leads on from the topmost items
  pub walked_none : (below : List Item) → below ≡ [] → IsWalked g rows earleme (tops ++ bottoms) below (length tops)
  walked_none below none = subst (λ l. IsWalked g rows earleme (tops ++ bottoms) l (length tops)) (sym none) (record {
    closed = record {
      begun = λ item h. Contains-append_left (tops ++ bottoms) [] item h;
      reached = λ item h. elim (Contains-append_cases (tops ++ bottoms) [] item h) [ inl f ↦ Seed f | inr n ↦ absurd (Contains-none item n) ];
      followed = λ i d lt other (before, (leo, l, same), le). absurd (
          top_ends g rows are earleme tops some (get_or ((tops ++ bottoms) ++ []) i d) leo (top_at i d lt) l);
      within = (let two = length-append tops bottoms in let all = length-append (tops ++ bottoms) [] in omega (arith, two, all));
      items = λ item h. elim (Contains-append_cases (tops ++ bottoms) [] item h) [
        | inl f ↦ first_items g rows are earleme tops (tops ++ bottoms) (are_first g rows are earleme tops bottoms exact) some item f
        | inr n ↦ absurd (Contains-none item n)
      ];
    };
    apart = λ item h. absurd (Contains-none item h);
  })
    where
      top_at : (i : ℕ) (d : Item) → i < length tops → Contains tops (get_or ((tops ++ bottoms) ++ []) i d)
      top_at i d lt =
          let two = length-append tops bottoms in
          let same = get_or_append_left (tops ++ bottoms) [] d i (omega (arith, lt, two)) ∙ get_or_append_left tops bottoms d i lt in
          subst (Contains tops) (sym same) (i, lt, get_or_default tops i (get_or tops i d) d lt)

  -- past the last item, what was found is what stands below
  pub walked_all : (below : List Item) → IsWalked g rows earleme (tops ++ bottoms) below (length tops + length bottoms + length below) → AllPairs (λ x y. x ≢ y) below → IsListOf (IsBelowOf g rows earleme tops) below
  walked_all below walked once =
      let two = length-append tops bottoms in
      let all = length-append (tops ++ bottoms) below in
      below_listed g rows are earleme tops (tops ++ bottoms) below (are_first g rows are earleme tops bottoms exact) some
      (closed_done g (IsSingleStep g rows earleme 0) (tops ++ bottoms) ((tops ++ bottoms) ++ below) (length tops + length bottoms + length below) walked.closed (omega (arith, two, all)))
      walked.apart once
