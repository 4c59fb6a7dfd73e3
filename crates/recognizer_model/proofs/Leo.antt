use Rattle.std.proofs.Common.{◌≡◌, ◌≢◌, ◌⊎◌, inl, inr, ℕ, zero, suc, ◌<◌, ◌≤◌, length, Some, List, [], ◌∷◌, slice_get, refl, sym, ◌∙◌, ap, subst, arith}
use Rattle.recognizer_model.specs.declared.Item.{Item}
use Rattle.recognizer_model.specs.Flat.{FlatGrammar, lhs_of, rhs_of}
use Rattle.grammar_model.specs.Derives.{Edges}
use Rattle.recognizer_model.specs.Items.{after, IsWhole, advanced, InSet}
use Rattle.recognizer_model.specs.Contexts.{IsTop}
use Rattle.recognizer_model.specs.Leo.{IsLeo, IsNotLeo, LeadsTo, InReduced, InExpanded, Kept, Step, GoesForward, LeoIsKnown, KeepsWaiting, ExpandsToAll}

-- nothing stands after the end
pub past_end : (xs : List ℕ) (n x : ℕ) → n ≡ length xs → slice_get xs n ≢ Some x
past_end [] n x e h = cc
past_end (y ∷ ys) zero x e h = absurd (omega arith)
past_end (y ∷ ys) (suc n) x e h = past_end ys n x (omega arith) h

module _ (g : FlatGrammar) (E : Edges) (top : ℕ) (is_top : IsTop g top) (forward : GoesForward E) where
  -- an item begins none later than its set
  pub origin_below : {j : ℕ} {item : Item} → InSet g E top j item → item.origin ≤ j
  origin_below InSet.Start = omega arith
  origin_below (InSet.Predict i e rule l) = omega arith
  origin_below (InSet.Skip i e n) = origin_below i
  origin_below (InSet.Scan {i = p} {j = j} {x = x} i e s) = let k = origin_below i in let l = forward x p j s in omega arith
  origin_below (InSet.Complete w whole lt i e) = let k = origin_below i in omega arith

  -- what a completion leads to is in the full set
  leads_inside : {i x j : ℕ} {topmost : Item} → LeadsTo g E top i x topmost → (w : Item) → InSet g E top j w → IsWhole g w →
      w.origin ≡ i → lhs_of g w.rule ≡ x → i < j → InSet g E top j topmost
  leads_inside (LeadsTo.Last {item = item} leo none) w w_in whole o l lt =
      InSet.Complete w_in whole (rw o lt) (subst (λ k. InSet g E top k item) (sym o) leo.inside) (leo.waits ∙ ap Some (sym l))
  leads_inside (LeadsTo.On {item = item} leo more) w w_in whole o l lt =
      let k = origin_below leo.inside in
      leads_inside more (advanced item)
      (InSet.Complete w_in whole (rw o lt) (subst (λ k. InSet g E top k item) (sym o) leo.inside) (leo.waits ∙ ap Some (sym l)))
      leo.last refl refl (omega arith)

  -- a reduced set is part of the full set
  pub reduced_inside : {j : ℕ} {item : Item} → InReduced g E top j item → InSet g E top j item
  reduced_inside InReduced.Start = InSet.Start
  reduced_inside (InReduced.Predict i e rule l) = InSet.Predict (reduced_inside i) e rule l
  reduced_inside (InReduced.Skip i e n) = InSet.Skip (reduced_inside i) e n
  reduced_inside (InReduced.Scan i e s) = InSet.Scan (reduced_inside i) e s
  reduced_inside (InReduced.Complete w whole lt none i e) = InSet.Complete (reduced_inside w) whole lt (reduced_inside i) e
  reduced_inside (InReduced.Leap w whole lt leads) = leads_inside leads _ (reduced_inside w) whole refl refl lt

  -- an expanded set is part of the full set
  pub expanded_inside : {j : ℕ} {item : Item} → InExpanded g E top j item → InSet g E top j item
  expanded_inside (Kept k) = reduced_inside k
  expanded_inside (Step w whole lt leo) = InSet.Complete (expanded_inside w) whole lt leo.inside leo.waits

  abbrev Leads : ℕ → ℕ → Type 0
  Leads i x = (topmost : Item) × LeadsTo g E top i x topmost

  -- a Leo item leads somewhere, if the one above it does
  pub leads_from : {i x : ℕ} {item : Item} → IsLeo g E top i x item →
      ((other : Item) → IsLeo g E top item.origin (lhs_of g item.rule) other → Leads item.origin (lhs_of g item.rule)) →
      ((other : Item) × IsLeo g E top item.origin (lhs_of g item.rule) other) ⊎ IsNotLeo g E top item.origin (lhs_of g item.rule) → Leads i x
  leads_from leo above (inl (other, leo')) = let (topmost, more) = above other leo' in (topmost, LeadsTo.On leo more)
  leads_from leo above (inr none) = (_, LeadsTo.Last leo none)

  -- above an item of a set every Leo item leads somewhere: the item that predicted it is the only one
  pub leads_above : {k j : ℕ} {item : Item} → LeoIsKnown g E top k → InSet g E top j item → j < k →
      (other : Item) → IsLeo g E top item.origin (lhs_of g item.rule) other → Leads item.origin (lhs_of g item.rule)
  leads_above known InSet.Start lt other leo = absurd (is_top.outermost _ _ leo.waits)
  leads_above known (InSet.Predict {j = j} {r = r} {item = item} i e rule l) lt other leo =
      let same : other ≡ item = sym (leo.only item i (e ∙ ap Some (sym l))) in
      let below = origin_below i in
      leads_from (subst (λ o. IsLeo g E top j (lhs_of g r) o) same leo) (leads_above known i lt) (known item.origin (lhs_of g item.rule) (omega arith))
  leads_above known (InSet.Skip i e n) lt other leo = leads_above known i lt other leo
  leads_above known (InSet.Scan {i = p} {j = j} {x = x} i e s) lt other leo = let l = forward x p j s in leads_above known i (omega arith) other leo
  leads_above known (InSet.Complete w whole lt' i e) lt other leo = leads_above known i (omega arith) other leo

  -- a completion that was left out of the reduced set: one step of a Leo item whose topmost item is kept
  pub record IsLeft (place : ℕ) (item : Item) : Type 0 where
    pub from : ℕ
    pub symbol : ℕ
    pub below : Item
    pub topmost : Item
    pub leo : IsLeo g E top from symbol below
    pub is_step : item ≡ advanced below
    pub leads : LeadsTo g E top from symbol topmost
    pub kept : InReduced g E top place topmost

  -- what waits was not left out
  waits_kept : {j x : ℕ} {item : Item} → InReduced g E top j item ⊎ IsLeft j item → after g item ≡ Some x → InReduced g E top j item
  waits_kept (inl k) e = k
  waits_kept {x = x} (inr l) e = absurd (past_end (rhs_of g l.below.rule) (suc l.below.dot) x l.leo.last (subst (λ o. after g o ≡ Some x) l.is_step e))

  -- a symbol that leads somewhere has a Leo item
  pub leo_of : {i x : ℕ} {topmost : Item} → LeadsTo g E top i x topmost → (item : Item) × IsLeo g E top i x item
  leo_of (LeadsTo.Last {item = item} leo none) = (item, leo)
  leo_of (LeadsTo.On {item = item} leo more) = (item, leo)

  -- where the next symbol has no Leo item, the topmost item is the step itself
  last_step : {i x : ℕ} {item topmost : Item} → IsLeo g E top i x item → LeadsTo g E top i x topmost →
      IsNotLeo g E top item.origin (lhs_of g item.rule) → topmost ≡ advanced item
  last_step leo (LeadsTo.Last {item = item'} leo' none) none' = ap advanced (leo.only item' leo'.inside leo'.waits)
  last_step leo (LeadsTo.On {item = item'} leo' more) none' =
      let (above, leo'') = leo_of more in
      absurd (none' above (subst (λ o. IsLeo g E top o.origin (lhs_of g o.rule) above) (leo.only item' leo'.inside leo'.waits) leo''))

  -- where it has one, the topmost item is that item's
  pub step_on : {i x : ℕ} {item above topmost : Item} → IsLeo g E top i x item → LeadsTo g E top i x topmost →
      IsLeo g E top item.origin (lhs_of g item.rule) above → LeadsTo g E top item.origin (lhs_of g item.rule) topmost
  step_on {above = above} leo (LeadsTo.Last {item = item'} leo' none) up =
      absurd (none above (subst (λ o. IsLeo g E top o.origin (lhs_of g o.rule) above) (sym (leo.only item' leo'.inside leo'.waits)) up))
  step_on {topmost = topmost} leo (LeadsTo.On {item = item'} leo' more) up =
      subst (λ o. LeadsTo g E top o.origin (lhs_of g o.rule) topmost) (leo.only item' leo'.inside leo'.waits) more

  known_before : {i j : ℕ} → i < j → LeoIsKnown g E top j → LeoIsKnown g E top i
  known_before lt known k x l = known k x (omega arith)

  -- a completion whose symbol has no Leo item is kept
  pub whole_kept : {j : ℕ} {w : Item} → InReduced g E top j w ⊎ IsLeft j w → IsNotLeo g E top w.origin (lhs_of g w.rule) → InReduced g E top j w
  whole_kept (inl k) none = k
  whole_kept {j = j} {w = w} (inr l) none =
      let same : w ≡ l.topmost = l.is_step ∙ sym (last_step l.leo l.leads (subst (λ o. IsNotLeo g E top o.origin (lhs_of g o.rule)) l.is_step none)) in
      subst (λ o. InReduced g E top j o) (sym same) l.kept

  -- where it has one, its step is left out, and the topmost item is kept
  step_left : {j : ℕ} {w item : Item} → InReduced g E top j w ⊎ IsLeft j w → IsWhole g w → w.origin < j →
      IsLeo g E top w.origin (lhs_of g w.rule) item → LeoIsKnown g E top j → IsLeft j (advanced item)
  step_left {item = item} (inl k) whole lt leo known =
      let (topmost, leads) = leads_from leo (leads_above known leo.inside lt) (known item.origin (lhs_of g item.rule) (let b = origin_below leo.inside in omega arith)) in
      record { from = _; symbol = _; below = item; topmost = topmost; leo = leo; is_step = refl; leads = leads; kept = InReduced.Leap k whole lt leads }
  step_left {item = item} (inr l) whole lt leo known =
      let up : IsLeo g E top l.below.origin (lhs_of g l.below.rule) item = subst (λ o. IsLeo g E top o.origin (lhs_of g o.rule) item) l.is_step leo in
      record { from = l.below.origin; symbol = lhs_of g l.below.rule; below = item; topmost = l.topmost; leo = up; is_step = refl; leads = step_on l.leo l.leads up; kept = l.kept }

  completed : {j : ℕ} {w item : Item} → InReduced g E top j w ⊎ IsLeft j w → IsWhole g w → w.origin < j → InReduced g E top w.origin item →
      after g item ≡ Some (lhs_of g w.rule) → LeoIsKnown g E top j →
      ((other : Item) × IsLeo g E top w.origin (lhs_of g w.rule) other) ⊎ IsNotLeo g E top w.origin (lhs_of g w.rule) →
      InReduced g E top j (advanced item) ⊎ IsLeft j (advanced item)
  completed {w = w} {item = item} p whole lt i e known (inl (other, leo)) =
      inr (step_left p whole lt (subst (λ o. IsLeo g E top w.origin (lhs_of g w.rule) o) (sym (leo.only item (reduced_inside i) e)) leo) known)
  completed p whole lt i e known (inr none) = inl (InReduced.Complete (whole_kept p none) whole lt none i e)

  -- each item of the full set is kept, or was left out
  pub kept_or_left : {j : ℕ} {item : Item} → InSet g E top j item → LeoIsKnown g E top j → InReduced g E top j item ⊎ IsLeft j item
  kept_or_left InSet.Start known = inl InReduced.Start
  kept_or_left (InSet.Predict i e rule l) known = inl (InReduced.Predict (waits_kept (kept_or_left i known) e) e rule l)
  kept_or_left (InSet.Skip i e n) known = inl (InReduced.Skip (waits_kept (kept_or_left i known) e) e n)
  kept_or_left (InSet.Scan {i = p} {j = j} {x = x} i e s) known = inl (InReduced.Scan (waits_kept (kept_or_left i (known_before (forward x p j s) known)) e) e s)
  kept_or_left (InSet.Complete w whole lt i e) known =
      completed (kept_or_left w known) whole lt (waits_kept (kept_or_left i (known_before lt known)) e) e known (known _ _ lt)

  expanded_step : {j : ℕ} {w item : Item} → InExpanded g E top j w → InReduced g E top j w ⊎ IsLeft j w → IsWhole g w → w.origin < j →
      InSet g E top w.origin item → InReduced g E top w.origin item → after g item ≡ Some (lhs_of g w.rule) →
      ((other : Item) × IsLeo g E top w.origin (lhs_of g w.rule) other) ⊎ IsNotLeo g E top w.origin (lhs_of g w.rule) →
      InExpanded g E top j (advanced item)
  expanded_step {w = w} {item = item} x p whole lt i k e (inl (other, leo)) = Step x whole lt (subst (λ o. IsLeo g E top w.origin (lhs_of g w.rule) o) (sym (leo.only item i e)) leo)
  expanded_step x p whole lt i k e (inr none) = Kept (InReduced.Complete (whole_kept p none) whole lt none k e)

  -- each item of the full set is in the expanded one
  expanded : {j : ℕ} {item : Item} → InSet g E top j item → LeoIsKnown g E top j → InExpanded g E top j item
  expanded InSet.Start known = Kept InReduced.Start
  expanded (InSet.Predict i e rule l) known = Kept (InReduced.Predict (waits_kept (kept_or_left i known) e) e rule l)
  expanded (InSet.Skip i e n) known = Kept (InReduced.Skip (waits_kept (kept_or_left i known) e) e n)
  expanded (InSet.Scan {i = p} {j = j} {x = x} i e s) known = Kept (InReduced.Scan (waits_kept (kept_or_left i (known_before (forward x p j s) known)) e) e s)
  expanded (InSet.Complete {item = item} w whole lt i e) known =
      expanded_step (expanded w known) (kept_or_left w known) whole lt i (waits_kept (kept_or_left i (known_before lt known)) e) e (known _ _ lt)

  pub keeps_waiting : (place : ℕ) → LeoIsKnown g E top place → KeepsWaiting g E top place
  keeps_waiting place known item x e = (reduced_inside, λ i. waits_kept (kept_or_left i known) e)

  pub expands_to_all : (place : ℕ) → LeoIsKnown g E top place → ExpandsToAll g E top place
  expands_to_all place known item = (expanded_inside, λ i. expanded i known)

  -- Topmost items can be made in passes over the items of a set: where a pass makes nothing new, all are made.
  module _ (place : ℕ) (known : LeoIsKnown g E top (suc place)) (IsMade : ℕ → Type 0)
      (stuck : (x : ℕ) (item : Item) → IsLeo g E top place x item →
      (item.origin < place) ⊎ (IsNotLeo g E top place (lhs_of g item.rule) ⊎ IsMade (lhs_of g item.rule)) → IsMade x) where
    made_for : (x : ℕ) (item : Item) → IsLeo g E top place x item → ((other : Item) → item.origin ≡ place → IsLeo g E top place (lhs_of g item.rule) other → IsMade (lhs_of g item.rule)) → IsMade x
    made_for x item leo above = by (earlier_or_here item.origin (origin_below leo.inside)) (known place (lhs_of g item.rule) (omega arith))
      where
        earlier_or_here : (n : ℕ) → n ≤ place → (n < place) ⊎ (n ≡ place)
        earlier_or_here n le = grind arith

        by : (item.origin < place) ⊎ (item.origin ≡ place) → ((other : Item) × IsLeo g E top place (lhs_of g item.rule) other) ⊎ IsNotLeo g E top place (lhs_of g item.rule) → IsMade x
        by (inl lt) d = stuck x item leo (inl lt)
        by (inr here) (inl (other, leo')) = stuck x item leo (inr (inr (above other here leo')))
        by (inr here) (inr none) = stuck x item leo (inr (inl none))

    made_above : {j : ℕ} {item : Item} → InSet g E top j item → (other : Item) → item.origin ≡ place → IsLeo g E top place (lhs_of g item.rule) other → IsMade (lhs_of g item.rule)
    made_above InSet.Start other here leo = absurd (is_top.outermost _ _ leo.waits)
    made_above (InSet.Predict {j = j} {x = x} {r = r} {item = item} i e rule l) other here leo =
        let i' : InSet g E top place item = subst (λ k. InSet g E top k item) here i in
        let same : other ≡ item = sym (leo.only item i' (e ∙ ap Some (sym l))) in
        made_for (lhs_of g r) item (subst (λ o. IsLeo g E top place (lhs_of g r) o) same leo) (made_above i)
    made_above (InSet.Skip i e n) other here leo = made_above i other here leo
    made_above (InSet.Scan i e s) other here leo = made_above i other here leo
    made_above (InSet.Complete w whole lt i e) other here leo = made_above i other here leo

    pub all_made : (x : ℕ) (item : Item) → IsLeo g E top place x item → IsMade x
    all_made x item leo = made_for x item leo (made_above leo.inside)
