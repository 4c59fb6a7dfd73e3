-- Whether an item is kept in the reduced set of a place is decided, where each place has a list of its items: what is kept follows in
-- one step from the full sets.
use Rattle.std.proofs.Common.{arith, ◌≡◌, ◌⊎◌, inl, inr, ℕ, suc, ◌<◌, List, length, Some, slice_get, refl, sym, ◌∙◌, ap, subst}
use Rattle.grammar_model.specs.Derives.{Edges}
use Rattle.recognizer_model.specs.declared.Item.{Item}
use Rattle.recognizer_model.specs.Flat.{FlatGrammar, IsRule, lhs_of, rhs_of, IsNullable}
use Rattle.recognizer_model.specs.Items.{after, IsWhole, first_item, advanced, InSet}
use Rattle.recognizer_model.specs.Contexts.{IsTop}
use Rattle.recognizer_model.specs.Leo.{IsLeo, IsNotLeo, LeadsTo, InReduced, IsHidden, GoesForward, LeoIsKnown}
use Rattle.recognizer_model.specs.Once.{IsKeptOnce}
use Rattle.recognizer_model.specs.Counts.{IsListOf}
use Rattle.recognizer_model.proofs.Leo.{leads_from, leads_above, leo_of, expands_to_all}
use Rattle.recognizer_model.proofs.Once.{leads_one, kept_in_one_step, known_by_sets}
use Rattle.finite_sets.specs.Decided.{IsDecided}
use Rattle.grammar_laws.proofs.Options.{some_held, same_option, some_true}
use Rattle.finite_sets.proofs.Deciding.{both, one_of, negated, moved, equal, less, some_below}
use Rattle.finite_sets.proofs.Members.{Among, among_from, contains_from, some_among, member}
use Rattle.grammar_laws.proofs.ItemSets.{same_item}

module _ (g : FlatGrammar) (E : Edges) (top : ℕ) (is_top : IsTop g top) (forward : GoesForward E) (edge : (x p q : ℕ) → IsDecided (E x p q))
    (sets : (j : ℕ) → (items : List Item) × IsListOf (InSet g E top j) items) where
  abbrev pub In : ℕ → Item → Type 0
  In j item = InSet g E top j item

  pub known : (place : ℕ) → LeoIsKnown g E top place
  known place = known_by_sets g E top place (λ i lt. let (items, is) = sets i in (items, is.exact))

  pub in_set : (j : ℕ) (item : Item) → In j item → Among item (sets j).0
  in_set j item i = among_from (sets j).0 item (((sets j).1.exact item).1 i)

  of_set : (j : ℕ) (item : Item) → Among item (sets j).0 → In j item
  of_set j item m = ((sets j).1.exact item).0 (contains_from (sets j).0 item m)

  set_decided : (j : ℕ) (item : Item) → IsDecided (In j item)
  set_decided j item = moved (of_set j item) (in_set j item) (member same_item item (sets j).0)

  -- some item of the set has a property
  some_in : (j : ℕ) (P : Item → Type 0) → ((item : Item) → IsDecided (P item)) → IsDecided ((item : Item) × In j item × P item)
  some_in j P d =
      moved (λ (item, m, p). (item, of_set j item m, p)) (λ (item, i, p). (item, in_set j item i, p)) (some_among P (sets j).0 (λ item m. d item))

  -- whether completions of a symbol lead anywhere, and where
  pub leads_on : (i x : ℕ) → IsDecided ((topmost : Item) × LeadsTo g E top i x topmost)
  leads_on i x = by (known (suc i) i x (omega arith))
    where
      by : ((leo : Item) × IsLeo g E top i x leo) ⊎ IsNotLeo g E top i x → IsDecided ((topmost : Item) × LeadsTo g E top i x topmost)
      by (inr none) = inr (λ (topmost, l). let (leo, is) = leo_of g E top is_top forward l in none leo is)
      by (inl (leo, is)) = inl (leads_from g E top is_top forward is (leads_above g E top is_top forward (known (suc i)) is.inside (omega arith)) (known (suc leo.origin) leo.origin (lhs_of g leo.rule) (omega arith)))

  leads_decided : (i x : ℕ) (item : Item) → IsDecided (LeadsTo g E top i x item)
  leads_decided i x item = elim (leads_on i x) [
    | inl (topmost, leads) ↦ moved (λ e. subst (LeadsTo g E top i x) e leads) (λ l. leads_one g E top is_top forward leads l) (same_item topmost item)
    | inr none ↦ inr (λ l. none (item, l))
  ]

  pub none_decided : (i x : ℕ) → IsDecided (IsNotLeo g E top i x)
  none_decided i x = elim (known (suc i) i x (omega arith)) [ inl (leo, is) ↦ inr (λ none. none leo is) | inr none ↦ inl none ]

  -- ---- how an item is kept

  abbrev Starts : ℕ → Item → Type 0
  Starts j item = (j ≡ 0) × (item ≡ first_item top 0)

  abbrev Predicted : ℕ → Item → Type 0
  Predicted j item = IsRule g item.rule × (item ≡ first_item item.rule j) × ((prev : Item) × In j prev × (after g prev ≡ Some (lhs_of g item.rule)))

  abbrev Skipped : ℕ → Item → Type 0
  Skipped j item = (prev : Item) × In j prev × ((item ≡ advanced prev) × ((x : ℕ) × (after g prev ≡ Some x) × IsNullable g x))

  abbrev Scanned : ℕ → Item → Type 0
  Scanned j item = (i : ℕ) × (i < j) × ((prev : Item) × In i prev × ((item ≡ advanced prev) × ((x : ℕ) × (after g prev ≡ Some x) × E x i j)))

  abbrev Ended : ℕ → Item → Type 0
  Ended j whole = IsWhole g whole × (whole.origin < j)

  abbrev Completed : ℕ → Item → Type 0
  Completed j item = (whole : Item) × In j whole × (Ended j whole × (IsNotLeo g E top whole.origin (lhs_of g whole.rule)
      × ((prev : Item) × In whole.origin prev × ((after g prev ≡ Some (lhs_of g whole.rule)) × (item ≡ advanced prev)))))

  abbrev Leapt : ℕ → Item → Type 0
  Leapt j item = (whole : Item) × In j whole × (Ended j whole × LeadsTo g E top whole.origin (lhs_of g whole.rule) item)

  ended_decided : (j : ℕ) (whole : Item) → IsDecided (Ended j whole)
  ended_decided j whole = both (equal whole.dot (length (rhs_of g whole.rule))) (less whole.origin j)

  starts_decided : (j : ℕ) (item : Item) → IsDecided (Starts j item)
  starts_decided j item = both (equal j 0) (same_item item (first_item top 0))

  predicted_decided : (j : ℕ) (item : Item) → IsDecided (Predicted j item)
  predicted_decided j item = moved (λ (a, (b, c)). (a, b, c)) (λ (a, b, c). (a, (b, c)))
      (both (less item.rule (length g.rules)) (both (same_item item (first_item item.rule j)) (some_in j (λ prev. after g prev ≡ Some (lhs_of g item.rule)) (λ prev. same_option (after g prev) (lhs_of g item.rule)))))

  skipped_decided : (j : ℕ) (item : Item) → IsDecided (Skipped j item)
  skipped_decided j item = some_in j (λ prev. (item ≡ advanced prev) × ((x : ℕ) × (after g prev ≡ Some x) × IsNullable g x))
      (λ prev. both (same_item item (advanced prev)) (some_held (after g prev) (IsNullable g) (λ x. some_true (slice_get g.nullable x))))

  scanned_decided : (j : ℕ) (item : Item) → IsDecided (Scanned j item)
  scanned_decided j item =
      some_below (λ i. (prev : Item) × In i prev × ((item ≡ advanced prev) × ((x : ℕ) × (after g prev ≡ Some x) × E x i j))) j
      (λ i lt. some_in i (λ prev. (item ≡ advanced prev) × ((x : ℕ) × (after g prev ≡ Some x) × E x i j))
      (λ prev. both (same_item item (advanced prev)) (some_held (after g prev) (λ x. E x i j) (λ x. edge x i j))))

  completed_decided : (j : ℕ) (item : Item) → IsDecided (Completed j item)
  completed_decided j item =
      some_in j (λ whole. Ended j whole × (IsNotLeo g E top whole.origin (lhs_of g whole.rule) × ((prev : Item) × In whole.origin prev × ((after g prev ≡ Some (lhs_of g whole.rule)) × (item ≡ advanced prev)))))
      (λ whole. both (ended_decided j whole) (both (none_decided whole.origin (lhs_of g whole.rule))
      (some_in whole.origin (λ prev. (after g prev ≡ Some (lhs_of g whole.rule)) × (item ≡ advanced prev)) (λ prev. both (same_option (after g prev) (lhs_of g whole.rule)) (same_item item (advanced prev))))))

  leapt_decided : (j : ℕ) (item : Item) → IsDecided (Leapt j item)
  leapt_decided j item =
      some_in j (λ whole. Ended j whole × LeadsTo g E top whole.origin (lhs_of g whole.rule) item)
      (λ whole. both (ended_decided j whole) (leads_decided whole.origin (lhs_of g whole.rule) item))

  abbrev Ways : ℕ → Item → Type 0
  Ways j item = Starts j item ⊎ (Predicted j item ⊎ (Skipped j item ⊎ (Scanned j item ⊎ (Completed j item ⊎ Leapt j item))))

  to_ways : {j : ℕ} {item : Item} → IsKeptOnce g E top j item → Ways j item
  to_ways IsKeptOnce.Start = inl (refl, refl)
  to_ways (IsKeptOnce.Predict {item = item} i e rule l) = inr (inl (rule, refl, (item, i, e ∙ ap Some (sym l))))
  to_ways (IsKeptOnce.Skip {x = x} {item = item} i e n) = inr (inr (inl (item, i, (refl, (x, e, n)))))
  to_ways (IsKeptOnce.Scan {i = i} {j = j} {x = x} {item = item} s e t) = inr (inr (inr (inl (i, forward x i j t, (item, s, (refl, (x, e, t)))))))
  to_ways (IsKeptOnce.Complete {whole = whole} {item = item} c w lt none i e) = inr (inr (inr (inr (inl (whole, c, ((w, lt), (none, (item, i, (e, refl)))))))))
  to_ways (IsKeptOnce.Leap {whole = whole} c w lt leads) = inr (inr (inr (inr (inr (whole, c, ((w, lt), leads))))))

  from_ways : (j : ℕ) (item : Item) → Ways j item → IsKeptOnce g E top j item
  from_ways j item (inl (z, e)) = subst (λ p. IsKeptOnce g E top p item) (sym z) (subst (IsKeptOnce g E top 0) (sym e) IsKeptOnce.Start)
  from_ways j item (inr (inl (rule, e, (prev, i, a)))) = subst (IsKeptOnce g E top j) (sym e) (IsKeptOnce.Predict i a rule refl)
  from_ways j item (inr (inr (inl (prev, i, (e, (x, a, n)))))) = subst (IsKeptOnce g E top j) (sym e) (IsKeptOnce.Skip i a n)
  from_ways j item (inr (inr (inr (inl (p, lt, (prev, i, (e, (x, a, t)))))))) = subst (IsKeptOnce g E top j) (sym e) (IsKeptOnce.Scan i a t)
  from_ways j item (inr (inr (inr (inr (inl (whole, c, ((w, lt), (none, (prev, i, (a, e)))))))))) = subst (IsKeptOnce g E top j) (sym e) (IsKeptOnce.Complete c w lt none i a)
  from_ways j item (inr (inr (inr (inr (inr (whole, c, ((w, lt), leads))))))) = IsKeptOnce.Leap c w lt leads

  pub kept_decided : (j : ℕ) (item : Item) → IsDecided (InReduced g E top j item)
  kept_decided j item =
      let once = kept_in_one_step g E top j is_top forward (known j) item in
      moved (λ w. once.1 (from_ways j item w)) (λ k. to_ways (once.0 k))
      (one_of (starts_decided j item) (one_of (predicted_decided j item) (one_of (skipped_decided j item) (one_of (scanned_decided j item) (one_of (completed_decided j item) (leapt_decided j item))))))

  pub hidden_decided : (j : ℕ) (item : Item) → IsDecided (IsHidden g E top j item)
  hidden_decided j item =
      let expands = expands_to_all g E top is_top forward j (known j) item in
      both (moved expands.1 expands.0 (set_decided j item)) (negated (kept_decided j item))

  pub hidden_inside : (j : ℕ) (item : Item) → IsHidden g E top j item → In j item
  hidden_inside j item h = (expands_to_all g E top is_top forward j (known j) item).0 h.0
