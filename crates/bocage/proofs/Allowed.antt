-- A topmost item that is asked for has a rule that the ranking allows over its span: the kept items tell the best one there.
use Rattle.std.proofs.Common.{◌≡◌, ◌⊎◌, inl, inr, ℕ, ℤ, ◌≤◌, ◌≤ℤ◌, ◌<ℤ◌, List, Contains, length, refl, sym, subst, arith}
use Rattle.std.proofs.lemmas.Int.{ints}
use Rattle.std.proofs.lemmas.Cmp.{int_ranked}
use Rattle.std.specs.declared.cmp.Ordering.{Ordering}
use Rattle.std.specs.declared.cmp.Ordering.TheVariants.{Less, Equal, Greater}
use Rattle.std.specs.Int.Signed.{≤ℤ_refl}
use Rattle.std.specs.Ordering.{int_cmp}
use Rattle.grammar_model.specs.declared.Ranking.{Ranking}
use Rattle.grammar_model.specs.declared.Ranking.TheVariants.{None as NoRanks, Rule as RuleRanks, High as HighRanks}
use Rattle.grammar_model.specs.Grammar.{Grammar}
use Rattle.recognizer_model.specs.declared.Item.{Item}
use Rattle.recognizer_model.specs.declared.NodeKey.{NodeKey}
use Rattle.grammar_model.specs.Trees.{Children}
use Rattle.recognizer_model.specs.Flat.{IsRule, lhs_of, rhs_of}
use Rattle.recognizer_model.specs.FlatDerives.{Spans}
use Rattle.recognizer_model.specs.Contexts.{MayStand}
use Rattle.recognizer_model.specs.Items.{InSet, IsWhole}
use Rattle.recognizer_model.specs.Leo.{LeadsTo, IsNotLeo, InReduced}
use Rattle.recognizer_model.specs.Chosen.{flat_rank, allowed_by}
use Rattle.recognizer_model.specs.Nodes.{IsMet, Whole, Before, Last}
use Rattle.recognizer_model.specs.Below.{node_of}
use Rattle.recognizer_model.proofs.Leo.{past_end}
use Rattle.earley_sets.specs.Recognizer.{Recognizer, earleme_of, edges_of, top_of}
use Rattle.earley_sets.specs.Below.{StandsBelow}
use Rattle.forest_parts.specs.Unasked.{IsOutranked, IsAskedFor, Met, Over}
use Rattle.forest_parts.specs.Needed.{IsBelowAsked}
use Rattle.forest_parts.proofs.Sets.{at_top, in_full, kept_inside}
use Rattle.forest_parts.proofs.Listed.{kept_exact, stays, bottom_of}
use Rattle.bocage.specs.Walk.{IsRead, IsUsedIn}
use Rattle.bocage.specs.Expanded.{IsBelowAllowed}
use Rattle.bocage.proofs.Splits.{used_met}

cases_int : (x y : ℤ) → (x <ℤ y) ⊎ (y ≤ℤ x)
cases_int x y = go (int_cmp x y) refl
  where
    go : (c : Ordering) → c ≡ int_cmp x y → (x <ℤ y) ⊎ (y ≤ℤ x)
    go Less is = inl (int_ranked x y Less is)
    go Equal is = let same : x ≡ y = int_ranked x y Equal is in inr (omega (arith, ints))
    go Greater is = let gt : y <ℤ x = int_ranked x y Greater is in inr (omega (arith, ints))

module _ (w : Grammar) (r : Recognizer) (read : IsRead w r) where
  abbrev IsAllowed : Ranking → (rule from to : ℕ) → Type 0
  IsAllowed ranking = allowed_by w ranking r.flat (edges_of r)

  abbrev IsStill : Item → Type 0
  IsStill item = IsNotLeo r.flat (edges_of r) (top_of r) item.origin (lhs_of r.flat item.rule)

  -- the whole reading has one rule
  top_allowed : (ranking : Ranking) → IsAllowed ranking (top_of r) 0 (earleme_of r)
  top_allowed NoRanks = tt
  top_allowed RuleRanks = tt
  top_allowed HighRanks = λ other children is_rule same spans.
      subst (λ z. flat_rank w HighRanks r.flat z ≤ℤ flat_rank w HighRanks r.flat (top_of r)) (sym ((at_top r read.is).alone other is_rule same)) (≤ℤ_refl (flat_rank w HighRanks r.flat (top_of r)))

  -- a whole rule that is met is allowed
  met_allowed : (ranking : Ranking) {rule d p q : ℕ} → IsMet r.flat (edges_of r) (allowed_by w ranking r.flat (edges_of r)) (top_of r) (earleme_of r) rule d p q → d ≡ length (rhs_of r.flat rule) → IsAllowed ranking rule p q
  met_allowed ranking (Whole lt s) full = top_allowed ranking
  met_allowed ranking (Before {r = rule} {d = d} {x = x} met s e t) full = absurd (past_end (rhs_of r.flat rule) d x full e)
  met_allowed ranking (Last met s e is lt s' best) full = best

  module _ (end : ℕ) (le : end ≤ earleme_of r) where
    -- where no single step leads on all rules over the span are kept
    still_allowed : (ranking : Ranking) (t : Item) → InSet r.flat (edges_of r) (top_of r) end t → IsStill t → (¬ IsOutranked w ranking r end t) → IsAllowed ranking t.rule t.origin end
    still_allowed NoRanks t there still best = tt
    still_allowed RuleRanks t there still best = tt
    still_allowed HighRanks t there still best = λ other children is_rule same spans. elim (cases_int (flat_rank w HighRanks r.flat t.rule) (flat_rank w HighRanks r.flat other)) [
      | inl lt ↦ absurd (best (other, (is_rule, same), (lt, stays r read.is end le (whole other) (inside other children is_rule same spans) (subst (λ x. IsNotLeo r.flat (edges_of r) (top_of r) t.origin x) (sym same) still))))
      | inr ge ↦ ge
    ]
      where
        whole : ℕ → Item
        whole other = record { rule = other; dot = length (rhs_of r.flat other); origin = t.origin }

        inside : (other : ℕ) (children : Children) → IsRule r.flat other → lhs_of r.flat other ≡ lhs_of r.flat t.rule → Spans r.flat (edges_of r) other (length (rhs_of r.flat other)) t.origin end children → InSet r.flat (edges_of r) (top_of r) end (whole other)
        inside other children is_rule same spans =
            (in_full r read.is end (whole other)).1 (record {
              is_rule = is_rule;
              may_stand = subst (λ x. MayStand r.flat (edges_of r) (top_of r) x t.origin) (sym same) ((in_full r read.is end t).0 there).may_stand;
              children = children;
              spans = spans;
            })

    leads_still : {i x : ℕ} {t : Item} → LeadsTo r.flat (edges_of r) (top_of r) i x t → IsWhole r.flat t × IsStill t
    leads_still (LeadsTo.Last leo none) = (leo.last, none)
    leads_still (LeadsTo.On leo more) = leads_still more

    -- and the topmost item is kept
    top_inside : (t item : Item) → StandsBelow r end t item → InSet r.flat (edges_of r) (top_of r) end t
    top_inside t item (hidden, leads) =
        let (b, (c, full, lt, up)) = bottom_of r read.is end le {j = end} {item = item} {t = t} refl hidden.0 (λ c. hidden.1 ((kept_exact r read.is end le item).0 c)) leads in
        kept_inside r read.is end t le ((kept_exact r read.is end le t).1 (InReduced.Leap ((kept_exact r read.is end le b).0 c) full lt up))

    module _ (ranking : Ranking) (keys : List NodeKey) (used : (key : NodeKey) → Contains keys key → IsUsedIn w ranking r key) where
      asked_allowed : {t : Item} → IsAskedFor w ranking r keys end t → IsWhole r.flat t → IsStill t → InSet r.flat (edges_of r) (top_of r) end t → IsAllowed ranking t.rule t.origin end
      asked_allowed (Met {item = t} h) full still there = met_allowed ranking ((used_met w ranking r read (node_of t end)).0 (used (node_of t end) h)).1 full
      asked_allowed (Over {item = t} (inl ((x, e, null), q)) asked) full still there = absurd (past_end (rhs_of r.flat t.rule) t.dot x full e)
      asked_allowed (Over {item = t} (inr (whole, (best, over))) asked) full still there = still_allowed ranking t there still best

      -- so what is hidden below one that is asked for stands below one that is allowed
      pub below_allowed : (least : ℕ) (item : Item) → IsBelowAsked w ranking r keys end least item → IsBelowAllowed w ranking r (record { place = end; item = item })
      below_allowed least item (t, stands, (late, asked)) =
          let (full, still) = leads_still stands.1 in
          (t, stands, asked_allowed asked full still (top_inside t item stands))
