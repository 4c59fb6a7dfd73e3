-- Above a used node that is hidden stands the only item that waits for it: so the chain leads up to an item that is kept and used.
use Rattle.std.proofs.Common.{◌≡◌, ◌⊎◌, inl, inr, ℕ, suc, ◌<◌, ◌≤◌, length, refl, sym, subst, arith}
use Rattle.recognizer_model.specs.declared.Item.{Item}
use Rattle.recognizer_model.specs.declared.NodeKey.{NodeKey}
use Rattle.recognizer_model.specs.Flat.{FlatGrammar, lhs_of, rhs_of}
use Rattle.grammar_model.specs.Derives.{Edges}
use Rattle.recognizer_model.specs.Items.{first_item, InSet}
use Rattle.recognizer_model.specs.Contexts.{IsTop}
use Rattle.recognizer_model.specs.Acceptable.{OnlyTerminals, NoTerminalHasRules}
use Rattle.recognizer_model.specs.Chosen.{Allowed, LeavesSome}
use Rattle.recognizer_model.specs.Leo.{IsLeo, IsNotLeo, LeadsTo, InReduced, IsHidden, GoesForward, LeoIsKnown}
use Rattle.recognizer_model.specs.Nodes.{IsUsed, IsMet, IsExpanded}
use Rattle.recognizer_model.specs.Below.{item_of, node_of, IsBelowUsed}
use Rattle.recognizer_model.proofs.Earley.{over_parts}
use Rattle.recognizer_model.proofs.Leo.{past_end, origin_below, expanded_inside, leo_of, kept_or_left, whole_kept}
use Rattle.recognizer_model.proofs.Once.{leads_one}
use Rattle.recognizer_model.proofs.Over.{hidden_whole}
use Rattle.recognizer_model.proofs.Nodes.{used_are_met}

module _ (g : FlatGrammar) (E : Edges) (allowed : Allowed) (top : ℕ) (is_top : IsTop g top) (forward : GoesForward E) (place : ℕ) where
  -- the rule of what is met was predicted where it begins
  met_begun : {r d p q : ℕ} → IsMet g E allowed top place r d p q → InSet g E top p (first_item r p)
  met_begun (IsMet.Whole lt s) = InSet.Start
  met_begun (IsMet.Before m s e t) = met_begun m
  met_begun (IsMet.Last m s e rule lt s' is) = InSet.Predict (over_parts g E top is_top s (met_begun m)) e rule refl

  -- and its item is in the set where it ends
  met_there : {r d p q : ℕ} → IsMet g E allowed top place r d p q → InSet g E top q (record { rule = r; dot = d; origin = p })
  met_there (IsMet.Whole lt s) = over_parts g E top is_top s InSet.Start
  met_there (IsMet.Before m s e t) = over_parts g E top is_top s (met_begun m)
  met_there (IsMet.Last m s e rule lt s' is) = over_parts g E top is_top s' (InSet.Predict (over_parts g E top is_top s (met_begun m)) e rule refl)

  -- the topmost item of a chain, kept in the set where the chain's nodes end, and met
  record HasTop (i x q : ℕ) : Type 0 where
    topmost : Item
    leads : LeadsTo g E top i x topmost
    kept : InReduced g E top q topmost
    met : IsMet g E allowed top place topmost.rule topmost.dot topmost.origin q
    some : 0 < topmost.dot

  -- one step up: it is the topmost item, or there is one above it
  topped : {r d p m x q : ℕ} → LeoIsKnown g E top q → IsLeo g E top m x (record { rule = r; dot = d; origin = p }) → IsMet g E allowed top place r (suc d) p q →
      ((other : Item) → IsLeo g E top p (lhs_of g r) other → HasTop p (lhs_of g r) q) →
      ((other : Item) × IsLeo g E top p (lhs_of g r) other) ⊎ IsNotLeo g E top p (lhs_of g r) → HasTop m x q
  topped known leo met above (inl (other, up)) =
      let t = above other up in
      record { topmost = t.topmost; leads = LeadsTo.On leo t.leads; kept = t.kept; met = t.met; some = t.some }
  topped {r = r} {d = d} {p = p} known leo met above (inr none) = record {
    topmost = record { rule = r; dot = suc d; origin = p };
    leads = LeadsTo.Last leo none;
    kept = whole_kept g E top is_top forward (kept_or_left g E top is_top forward (met_there met) known) none;
    met = met;
    some = omega arith;
  }

  -- the parent of a whole node whose symbol has a Leo item is that item's node
  climbed : {r d p q : ℕ} → LeoIsKnown g E top q → IsMet g E allowed top place r d p q → d ≡ length (rhs_of g r) →
      (other : Item) → IsLeo g E top p (lhs_of g r) other → HasTop p (lhs_of g r) q
  climbed known (IsMet.Whole lt s) whole other leo = absurd (is_top.outermost other.rule other.dot leo.waits)
  climbed known (IsMet.Before {r = r} {d = d} {x = x} m s e t) whole other leo = absurd (past_end (rhs_of g r) d x whole e)
  climbed known (IsMet.Last {r = r} {r' = r'} {d = d} {p = p} {m = m} {q = q} met s e rule lt s' is) whole other leo =
      let there : InSet g E top m (record { rule = r; dot = d; origin = p }) = over_parts g E top is_top s (met_begun met) in
      let here : IsLeo g E top m (lhs_of g r') (record { rule = r; dot = d; origin = p }) =
      subst (IsLeo g E top m (lhs_of g r')) (sym (leo.only (record { rule = r; dot = d; origin = p }) there e)) leo in
      let le : p ≤ m = origin_below g E top is_top forward there in
      let earlier : p < q = omega arith in
      topped known here met (climbed known met here.last) (known p (lhs_of g r) earlier)

  -- where a chain leads begins no later than its first step's set
  pub leads_back : {i x : ℕ} {t : Item} → LeadsTo g E top i x t → t.origin ≤ i
  leads_back (LeadsTo.Last leo none) = origin_below g E top is_top forward leo.inside
  leads_back (LeadsTo.On leo more) = let k = leads_back more in let le = origin_below g E top is_top forward leo.inside in omega arith

  module _ (only : OnlyTerminals g E) (no_rules : NoTerminalHasRules g) (leaves : LeavesSome g E allowed) where
    -- where a used whole node's symbol has a Leo item, the chain ends at a used node
    pub above_used : (n : NodeKey) → LeoIsKnown g E top n.end → IsUsed g E allowed top place n → n.dot ≡ length (rhs_of g n.rule) → (other : Item) → IsLeo g E top n.origin (lhs_of g n.rule) other →
        (t : Item) × LeadsTo g E top n.origin (lhs_of g n.rule) t × IsUsed g E allowed top place (node_of t n.end)
    above_used n known u whole other leo =
        let met = ((used_are_met g E allowed top is_top only no_rules leaves place n).0 u).1 in
        let t = climbed known met whole other leo in
        (t.topmost, t.leads, (used_are_met g E allowed top is_top only no_rules leaves place (node_of t.topmost n.end)).1 (t.some, t.met))

  module _ (only : OnlyTerminals g E) (no_rules : NoTerminalHasRules g) (leaves : LeavesSome g E allowed) (known : (end : ℕ) → LeoIsKnown g E top end) where
    pub used_below : (n : NodeKey) → IsUsed g E allowed top place n → IsHidden g E top n.end (item_of n) → IsBelowUsed g E allowed top place n.end (item_of n)
    used_below n u h = by (known n.end n.origin (lhs_of g n.rule) (hidden_whole g E top is_top forward h).1)
      where
        by : ((other : Item) × IsLeo g E top n.origin (lhs_of g n.rule) other) ⊎ IsNotLeo g E top n.origin (lhs_of g n.rule) → IsBelowUsed g E allowed top place n.end (item_of n)
        by (inl (other, leo)) =
            let (whole, before) = hidden_whole g E top is_top forward h in
            let met = ((used_are_met g E allowed top is_top only no_rules leaves place n).0 u).1 in
            let t = climbed (known n.end) met whole other leo in
            record {
              topmost = t.topmost;
              below = (h, t.leads);
              kept = t.kept;
              used = (used_are_met g E allowed top is_top only no_rules leaves place (node_of t.topmost n.end)).1 (t.some, t.met);
            }
        by (inr none) = absurd (h.1 (whole_kept g E top is_top forward (kept_or_left g E top is_top forward (expanded_inside g E top is_top forward h.0) (known n.end)) none))

    -- and where a used whole node leads, the node of that with the same end is used
    pub used_above : (n : NodeKey) → IsUsed g E allowed top place n → n.dot ≡ length (rhs_of g n.rule) → (t : Item) → LeadsTo g E top n.origin (lhs_of g n.rule) t →
        InReduced g E top n.end t × IsUsed g E allowed top place (node_of t n.end)
    used_above n u whole t leads =
        let (other, leo) = leo_of g E top is_top forward leads in
        let met = ((used_are_met g E allowed top is_top only no_rules leaves place n).0 u).1 in
        let h = climbed (known n.end) met whole other leo in
        subst (λ z. InReduced g E top n.end z × IsUsed g E allowed top place (node_of z n.end)) (leads_one g E top is_top forward h.leads leads)
        (h.kept, (used_are_met g E allowed top is_top only no_rules leaves place (node_of h.topmost n.end)).1 (h.some, h.met))

    pub below_expanded : (end : ℕ) (item : Item) → IsBelowUsed g E allowed top place end item → IsExpanded g E allowed top place (record { place = end; item = item })
    below_expanded end item b = (b.below.0, (node_of b.topmost end, b.used, refl, leads_back b.below.1))
