-- What begins at a place, by the symbols that its kernel waits for.
use Rattle.std.proofs.Common.{◌≡◌, ◌≢◌, ℕ, ◌<◌, ◌≤◌, ◌↔◌, ◌⊎◌, inl, inr, List, Some, Contains, refl, sym, ◌∙◌, ap, subst, arith}
use Rattle.grammar_model.specs.declared.Edge.{Edge as HeldEdge}
use Rattle.recognizer_model.specs.declared.Item.{Item}
use Rattle.recognizer_model.specs.Flat.{FlatGrammar, lhs_of}
use Rattle.recognizer_model.specs.Items.{first_item, advanced}
use Rattle.recognizer_model.specs.Contexts.{IsTop}
use Rattle.item_rows.specs.Rows.{IsBegunAt}
use Rattle.item_rows.specs.Kept.{IsAwaited, AreRows}
use Rattle.leo_items.specs.ByRows.{LeadsIn}
use Rattle.leo_items.proofs.Chains.{leo_inside}
use Rattle.begun_lists.specs.Closing.{Follows, GoesOn, IsReached, Seed, Step}
use Rattle.begun_lists.specs.Closing as closing
use Rattle.begun_lists.specs.Begun.{Begins, AreBegun, IsBegun}
use Rattle.begun_lists.specs.Begun as begun
use Rattle.earley_sets.specs.Scanning.{IsSeed, GoForward}
use Rattle.earley_sets.proofs.Following.{leads_later}

-- a set is its kernel, and what begins at its place
module _ (g : FlatGrammar) (rows : List (List Item)) (earleme : ℕ) (seeds kernel list : List Item) (exact : (item : Item) → Contains kernel item ↔ IsReached (GoesOn g rows earleme) seeds item)
    (are : AreBegun g (IsAwaited g kernel) list) where
  kernel_reached : (item : Item) → IsReached (GoesOn g rows earleme) seeds item → IsReached (Follows g rows earleme) seeds item
  kernel_reached item (Seed h) = Seed h
  kernel_reached item (Step {item = before} r (f, behind)) = Step (kernel_reached before r) f

  begun_reached : {item : Item} → Begins g (IsAwaited g kernel) item → IsReached (Follows g rows earleme) seeds (record item { origin = earleme })
  begun_reached (begun.First (w, there, waits) rule l) = Step (kernel_reached w ((exact w).0 there)) (closing.Predicts waits rule l)
  begun_reached (begun.Predicts b e rule l) = Step (begun_reached b) (closing.Predicts e rule l)
  begun_reached (begun.Skips b e n) = Step (begun_reached b) (closing.Skips e n)

  on : (item other : Item) → Contains kernel item → Follows g rows earleme item other → other.dot ≢ 0 → Contains kernel other
  on item other k f behind = (exact other).1 (Step ((exact item).0 k) (f, behind))

  step_split : (item other : Item) → Contains kernel item ⊎ IsBegunAt list earleme item → Follows g rows earleme item other → Contains kernel other ⊎ IsBegunAt list earleme other
  step_split item other (inl k) (closing.Predicts {r = r} e rule l) = inr (refl, (are (first_item r 0)).1 (begun.First (item, k, e) rule l))
  step_split item other (inl k) (closing.Skips e n) = inl (on item other k (closing.Skips e n) (λ start. omega (arith, start)))
  step_split item other (inl k) (closing.Completes whole lt none w e) = inl (on item other k (closing.Completes whole lt none w e) (λ start. omega (arith, start)))
  step_split item other (inl k) (closing.Leaps whole lt leads) = inl (on item other k (closing.Leaps whole lt leads) (leads_later leads))
  step_split item other (inr (here, b)) (closing.Predicts {r = r} e rule l) = inr (refl, (are (first_item r 0)).1 (begun.Predicts ((are (record item { origin = 0 })).0 b) e rule l))
  step_split item other (inr (here, b)) (closing.Skips e n) = inr (here, (are (record (advanced item) { origin = 0 })).1 (begun.Skips ((are (record item { origin = 0 })).0 b) e n))
  step_split item other (inr (here, b)) (closing.Completes whole lt none w e) = absurd (omega (arith, here, lt))
  step_split item other (inr (here, b)) (closing.Leaps whole lt leads) = absurd (omega (arith, here, lt))

  reached_split : (item : Item) → IsReached (Follows g rows earleme) seeds item → Contains kernel item ⊎ IsBegunAt list earleme item
  reached_split item (Seed h) = inl ((exact item).1 (Seed h))
  reached_split item (Step {item = before} r f) = step_split before item (reached_split before r) f

  pub begun_at_place : (item : Item) → IsBegun g earleme kernel item → IsReached (Follows g rows earleme) seeds item
  begun_at_place item (here, b) = subst (λ p. IsReached (Follows g rows earleme) seeds (record item { origin = p })) (sym here) (begun_reached b)

  pub kernel_there : (item : Item) → Contains kernel item → IsReached (Follows g rows earleme) seeds item
  kernel_there item k = kernel_reached item ((exact item).0 k)

  pub splits : (item : Item) → (Contains kernel item ⊎ IsBegunAt list earleme item) ↔ IsReached (Follows g rows earleme) seeds item
  splits item = (
    λ h. elim h [ inl k ↦ kernel_there item k | inr (here, b) ↦ begun_at_place item (here, (are (record item { origin = 0 })).0 b) ],
    reached_split item,
  )

-- nothing of the top's rule begins
never_top : {g : FlatGrammar} {top : ℕ} {A : ℕ → Type 0} {item : Item} → IsTop g top → ((x : ℕ) → A x → x ≢ lhs_of g top) → Begins g A item → item.rule ≢ top
never_top {g = g} is_top other (begun.First {x = x} a rule l) same = other x a (sym l ∙ ap (lhs_of g) same)
never_top {g = g} is_top other (begun.Predicts {item = before} b e rule l) same = is_top.outermost before.rule before.dot (e ∙ ap Some (sym l ∙ ap (lhs_of g) same))
never_top is_top other (begun.Skips b e n) same = never_top is_top other b same

-- the items of a kernel began at an earlier place, or are of the top's rule
module _ (g : FlatGrammar) (rows : List (List Item)) (are : AreRows g rows) (top earleme : ℕ) (is_top : IsTop g top) (edges : List HeldEdge) (forward : GoForward edges) where
  abbrev pub IsOwn : Item → Type 0
  IsOwn item = (item.origin < earleme) ⊎ ((earleme ≡ 0) × (item.rule ≡ top))

  leads_below : {i x : ℕ} {t : Item} → LeadsIn g rows i x t → t.origin ≤ i
  leads_below (LeadsIn.Last leo none) = (leo_inside g rows are leo).1
  leads_below (LeadsIn.On leo more) = let le = (leo_inside g rows are leo).1 in let below = leads_below more in omega (arith, le, below)

  own_seed : (item : Item) → IsSeed g rows top earleme edges item → IsOwn item
  own_seed item (inl (p, e)) = inr (p, ap (λ (t : Item). t.rule) e)
  own_seed item (inr (edge, held, ends, s)) =
      let le = (are edge.from).begun s.waiting s.there in
      let lt = forward edge held in
      let o = ap (λ (t : Item). t.origin) s.same in
      inl (omega (arith, le, lt, o, ends))

  own_step : (item other : Item) → IsOwn item → Follows g rows earleme item other → other.dot ≢ 0 → IsOwn other
  own_step item other own (closing.Predicts e rule l) behind = absurd (behind refl)
  own_step item other own (closing.Skips e n) behind = own
  own_step item other own (closing.Completes {waiting = w} whole lt none there e) behind = let le = (are item.origin).begun w there in inl (omega (arith, le, lt))
  own_step item other own (closing.Leaps whole lt leads) behind = let le = leads_below leads in inl (omega (arith, le, lt))

  module _ (seeds kernel : List Item) (is_seed : (item : Item) → Contains seeds item ↔ IsSeed g rows top earleme edges item) (exact : (item : Item) → Contains kernel item ↔ IsReached (GoesOn g rows earleme) seeds item) where
    own : (item : Item) → IsReached (GoesOn g rows earleme) seeds item → IsOwn item
    own item (Seed h) = own_seed item ((is_seed item).0 h)
    own item (Step {item = before} r (f, behind)) = own_step before item (own before r) f behind

    pub kernel_own : (item : Item) → Contains kernel item → IsOwn item
    kernel_own item k = own item ((exact item).0 k)

    pub apart : (list : List Item) → AreBegun g (IsAwaited g kernel) list → (item : Item) → Contains kernel item → ¬ IsBegunAt list earleme item
    apart list begun_is item k (here, b) = elim (kernel_own item k) [
      | inl lt ↦ omega (arith, lt, here)
      | inr (p, same) ↦ never_top is_top (λ x (w, there, waits) e. is_top.outermost w.rule w.dot (waits ∙ ap Some e)) ((begun_is (record item { origin = 0 })).0 b) same
    ]
