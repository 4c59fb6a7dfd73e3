-- Where an item is asked for some derivation of the whole has its node, whatever the ranks, and so has each hidden item below it.
use Rattle.std.proofs.Common.{◌≡◌, inl, inr, ℕ, ◌<◌, ◌≤◌, List, Some, Contains, refl, sym, ◌∙◌, ap, subst, arith}
use Rattle.grammar_model.specs.declared.Ranking.{Ranking}
use Rattle.grammar_model.specs.declared.Ranking.TheVariants.{None as NoRanks}
use Rattle.grammar_model.specs.Grammar.{Grammar}
use Rattle.recognizer_model.specs.declared.Item.{Item}
use Rattle.recognizer_model.specs.declared.NodeKey.{NodeKey}
use Rattle.recognizer_model.specs.Flat.{lhs_of}
use Rattle.recognizer_model.specs.FlatDerives.{Spans, Null}
use Rattle.recognizer_model.specs.Items.{InSet, IsWhole, after, advanced}
use Rattle.recognizer_model.specs.Leo.{LeadsTo, InReduced, InExpanded, Kept, Step}
use Rattle.recognizer_model.specs.Chosen.{allowed_by}
use Rattle.recognizer_model.specs.Nodes.{IsMet, Whole, Before, Last}
use Rattle.recognizer_model.specs.Below.{node_of}
use Rattle.recognizer_model.proofs.Leo.{origin_below}
use Rattle.recognizer_model.proofs.Over.{hidden_whole}
use Rattle.recognizer_model.proofs.Below.{leads_back}
use Rattle.earley_sets.specs.Recognizer.{Recognizer, earleme_of, edges_of, top_of}
use Rattle.forest_parts.specs.Unasked.{IsAbove, IsAskedFor, Met, Over}
use Rattle.forest_parts.specs.Needed.{IsBelowAsked}
use Rattle.forest_parts.proofs.Sets.{at_top, goes, kept_inside, hidden_inside, in_full}
use Rattle.forest_parts.proofs.Counting.{at_place}
use Rattle.bocage.specs.Walk.{IsRead, IsUsedIn}
use Rattle.bocage.specs.Expanded.{IsHiddenNode}
use Rattle.bocage.proofs.Splits.{used_met}

module _ (w : Grammar) (r : Recognizer) (read : IsRead w r) where
  abbrev IsMetBy : Ranking → (rule dot from to : ℕ) → Type 0
  IsMetBy ranking rule dot from to = IsMet r.flat (edges_of r) (allowed_by w ranking r.flat (edges_of r)) (top_of r) (earleme_of r) rule dot from to

  abbrev IsIn : (place : ℕ) → Item → Type 0
  IsIn place item = InSet r.flat (edges_of r) (top_of r) place item

  -- what a ranking leaves is there without ranks
  met_without : (ranking : Ranking) {rule d p q : ℕ} → IsMetBy ranking rule d p q → IsMetBy NoRanks rule d p q
  met_without ranking (Whole lt s) = Whole lt s
  met_without ranking (Before met s e t) = Before (met_without ranking met) s e t
  met_without ranking (Last met s e rule lt s' best) = Last (met_without ranking met) s e rule lt s' tt

  hidden_some : {place : ℕ} {item : Item} → InExpanded r.flat (edges_of r) (top_of r) place item → (¬ InReduced r.flat (edges_of r) (top_of r) place item) → 0 < item.dot
  hidden_some (Kept k) none = absurd (none k)
  hidden_some (Step {item = leo} s full lt l) none = omega arith

  module _ (end : ℕ) (le : end ≤ earleme_of r) where
    -- an item of the place has its node
    abbrev HasNode : Item → Type 0
    HasNode item = IsMetBy NoRanks item.rule item.dot item.origin end

    -- a whole item has it where an item that waits for it has it with one part more
    completes : (whole waiting : Item) → IsIn end whole → IsWhole r.flat whole → whole.origin < end → IsIn whole.origin waiting → after r.flat waiting ≡ Some (lhs_of r.flat whole.rule) → HasNode (advanced waiting) → HasNode whole
    completes whole waiting there full lt at waits met =
        let before = (in_full r read.is whole.origin waiting).0 at in
        let is = (in_full r read.is end whole).0 there in
        subst (λ d. IsMetBy NoRanks whole.rule d whole.origin end) (sym full)
        (Last met before.spans waits is.is_rule lt (subst (λ d. Spans r.flat (edges_of r) whole.rule d whole.origin end is.children) full is.spans) tt)

    -- and so all down a chain
    down : {i x : ℕ} {t : Item} → LeadsTo r.flat (edges_of r) (top_of r) i x t → (whole : Item) → whole.origin ≡ i → lhs_of r.flat whole.rule ≡ x → IsIn end whole → IsWhole r.flat whole → whole.origin < end → (IsIn end t → HasNode t) → HasNode whole
    down (LeadsTo.Last {item = leo} l none) whole o e there full lt met =
        let at : IsIn whole.origin leo = subst (λ i. IsIn i leo) (sym o) l.inside in
        let waits = l.waits ∙ ap Some (sym e) in
        completes whole leo there full lt at waits (met (InSet.Complete there full lt at waits))
    down (LeadsTo.On {item = leo} l more) whole o e there full lt met =
        let at : IsIn whole.origin leo = subst (λ i. IsIn i leo) (sym o) l.inside in
        let waits = l.waits ∙ ap Some (sym e) in
        let low = origin_below r.flat (edges_of r) (top_of r) (at_top r read.is) (goes r read.is) at in
        completes whole leo there full lt at waits (down more (advanced leo) refl refl (InSet.Complete there full lt at waits) l.last (omega arith) met)

    -- where one above it has its node it has its own
    under : (ranking : Ranking) (item other : Item) → IsAbove w ranking r end item other → IsIn end item → item.origin < end → (IsIn end other → other.origin < end → HasNode other) → HasNode item
    under ranking item other (inl ((x, e, null), q)) there lt met =
        let next = subst (λ z. IsIn end z → z.origin < end → HasNode z) q met in
        let is = (in_full r read.is end item).0 there in
        Before (next (InSet.Skip there e null) lt) is.spans e (Null null)
    under ranking item other (inr (full, (best, inl (before, leads)))) there lt met =
        let low = leads_back r.flat (edges_of r) (λ a b c. ⊥) (top_of r) (at_top r read.is) (goes r read.is) 0 leads in
        down leads item refl refl there full lt (λ h. met h (omega arith))
    under ranking item other (inr (full, (best, inr (still, (waiting, kept, waits, q))))) there lt met =
        let next = subst (λ z. IsIn end z → z.origin < end → HasNode z) q met in
        let at = kept_inside r read.is item.origin waiting (omega arith) kept in
        let low = origin_below r.flat (edges_of r) (top_of r) (at_top r read.is) (goes r read.is) at in
        completes item waiting there full lt at waits (next (InSet.Complete there full lt at waits) (omega arith))

    module _ (ranking : Ranking) (keys : List NodeKey) (used : (key : NodeKey) → Contains keys key → IsUsedIn w ranking r key) where
      -- so an item that is asked for has it
      asked_met : {item : Item} → IsAskedFor w ranking r keys end item → IsIn end item → item.origin < end → HasNode item
      asked_met (Met {item = item} h) there lt = met_without ranking ((used_met w ranking r read (node_of item end)).0 (used (node_of item end) h)).1
      asked_met (Over {item = item} {other = other} above asked) there lt = under ranking item other above there lt (asked_met asked)

      -- and so has what is hidden below one that is asked for
      pub asked_node : (least : ℕ) (item : Item) → IsBelowAsked w ranking r keys end least item → IsHiddenNode w r (at_place end item)
      asked_node least item (t, (hidden, leads), (late, asked)) =
          let (full, lt) = hidden_whole r.flat (edges_of r) (top_of r) (at_top r read.is) (goes r read.is) hidden in
          let low = leads_back r.flat (edges_of r) (λ a b c. ⊥) (top_of r) (at_top r read.is) (goes r read.is) 0 leads in (
            hidden,
            (used_met w NoRanks r read (node_of item end)).1 (
              hidden_some hidden.0 hidden.1,
              down leads item refl refl (hidden_inside r read.is end item hidden) full lt (λ there. asked_met asked there (omega arith)),
            ),
          )
