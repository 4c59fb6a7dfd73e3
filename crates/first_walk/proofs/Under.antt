-- Which nodes of a place the first one there asks for: what a walk goes on to from one of them is another.
use Rattle.std.proofs.Common.{◌≡◌, inl, inr, ℕ, suc, ◌<◌, ◌≤◌, ◌≤ℤ◌, [], Some, length, Contains, refl, sym, ◌∙◌, ap, subst, arith}
use Rattle.std.specs.Int.Signed.{≤ℤ_refl}
use Rattle.grammar_model.specs.declared.Ranking.{Ranking}
use Rattle.grammar_model.specs.declared.Ranking.TheVariants.{None as NoRanks, Rule as RuleRanks, High as HighRanks}
use Rattle.grammar_model.specs.Grammar.{Grammar}
use Rattle.recognizer_model.specs.declared.Item.{Item}
use Rattle.recognizer_model.specs.declared.NodeKey.{NodeKey}
use Rattle.recognizer_model.specs.Below.{item_of}
use Rattle.recognizer_model.specs.Flat.{lhs_of, rhs_of, part_of, IsNullable}
use Rattle.recognizer_model.specs.Items.{InSet, IsWhole, advanced}
use Rattle.recognizer_model.specs.Leo.{LeadsTo}
use Rattle.recognizer_model.specs.Chosen.{flat_rank, allowed_by}
use Rattle.recognizer_model.specs.Nodes.{IsMet, Whole, Before, Last}
use Rattle.recognizer_model.proofs.Leo.{past_end, origin_below}
use Rattle.recognizer_model.proofs.Leaving.{leaves_some}
use Rattle.recognizer_model.proofs.Below.{above_used}
use Rattle.earley_sets.specs.Below.{LeadsUp}
use Rattle.earley_sets.specs.Recognizer.{Recognizer, earleme_of, set_at, edges_of, top_of}
use Rattle.earley_sets.proofs.Membership.{Contains-first}
use Rattle.earley_sets.proofs.Recognizing.{only}
use Rattle.forest_parts.specs.Unasked.{IsOutranked, Met, Over}
use Rattle.forest_parts.proofs.Sets.{at_top, goes, waits_exact}
use Rattle.forest_parts.proofs.Listed.{leo_known}
use Rattle.forest_parts.proofs.LeftOut.{not_outranked}
use Rattle.bocage.specs.Walk.{IsRead, IsUsedIn, top_key}
use Rattle.bocage.proofs.Splits.{used_met}
use Rattle.first_walk.specs.Place.{IsAskedBy, IsUnder}

module _ (w : Grammar) (ranking : Ranking) (r : Recognizer) (read : IsRead w r) where
  abbrev Leads : (place symbol : ℕ) → Item → Type 0
  Leads place symbol t = LeadsTo r.flat (edges_of r) (top_of r) place symbol t

  -- from the whole reading nothing leads on
  outermost : {i : ℕ} {t : Item} → Leads i (lhs_of r.flat (top_of r)) t → ⊥
  outermost (LeadsTo.Last {item = leo} l none) = (at_top r read.is).outermost leo.rule leo.dot l.waits
  outermost (LeadsTo.On {item = leo} l more) = (at_top r read.is).outermost leo.rule leo.dot l.waits

  -- THE FIRST NODE OF A PLACE

  by_itself : (key : NodeKey) → (IsWhole r.flat (item_of key) → (t : Item) → LeadsUp r key.end (item_of key) t → IsAskedBy w ranking r key t) → IsUnder w ranking r key key
  by_itself key above = record { end = refl; asked = (omega arith, Met (Contains-first key [])); above = above }

  pub waits_under : (key : NodeKey) → key.dot < length (rhs_of r.flat key.rule) → IsUnder w ranking r key key
  waits_under key lt = by_itself key (λ whole t up. (let full : key.dot ≡ length (rhs_of r.flat key.rule) = whole in absurd (omega arith)))

  pub top_under : (key : NodeKey) → key ≡ top_key r → IsUnder w ranking r key key
  top_under key e = by_itself key (λ whole t up. absurd (outermost (subst (λ x. Leads key.origin (lhs_of r.flat x) t) (ap (λ (z : NodeKey). z.rule) e) up.1)))

  -- WHAT A WHOLE RULE THAT IS USED IS ALLOWED

  top_allowed : (ranking' : Ranking) → allowed_by w ranking' r.flat (edges_of r) (top_of r) 0 (earleme_of r)
  top_allowed NoRanks = tt
  top_allowed RuleRanks = tt
  top_allowed HighRanks = λ other children is_rule same spans.
      subst (λ z. flat_rank w HighRanks r.flat z ≤ℤ flat_rank w HighRanks r.flat (top_of r)) (sym ((at_top r read.is).alone other is_rule same)) (≤ℤ_refl (flat_rank w HighRanks r.flat (top_of r)))

  met_allowed : {rule d p q : ℕ} → IsMet r.flat (edges_of r) (allowed_by w ranking r.flat (edges_of r)) (top_of r) (earleme_of r) rule d p q → d ≡ length (rhs_of r.flat rule) → allowed_by w ranking r.flat (edges_of r) rule p q
  met_allowed (Whole lt s) full = top_allowed ranking
  met_allowed (Before {r = rule} {d = d} {x = x} met s e t) full = absurd (past_end (rhs_of r.flat rule) d x full e)
  met_allowed (Last met s e is lt s' best) full = best

  -- THE NODES THAT ONE LEADS TO

  module _ (first : NodeKey) (rule d origin end x : ℕ) (part : part_of r.flat rule d ≡ Some x) (le : end ≤ earleme_of r)
      (under : IsUnder w ranking r first (record { rule = rule; dot = suc d; origin = origin; end = end })) where
    abbrev parent : Item
    parent = record { rule = rule; dot = d; origin = origin }

    same_end : end ≡ first.end
    same_end = under.end

    -- that of the parts before, where the last part spans nothing
    pub before_under : IsNullable r.flat x → IsUnder w ranking r first (record { rule = rule; dot = d; origin = origin; end = end })
    before_under null = record {
      end = under.end;
      asked = (under.asked.0, Over (inl ((x, part, null), refl)) under.asked.1);
      above = λ whole t up. absurd (past_end (rhs_of r.flat rule) d x whole part);
    }

    module _ (m rule' : ℕ) (left : lhs_of r.flat rule' ≡ x) (lt : m < end) (there : Contains (set_at r m) parent)
        (used : IsUsedIn w ranking r (record { rule = rule'; dot = length (rhs_of r.flat rule'); origin = m; end = end })) where
      abbrev node : NodeKey
      node = record { rule = rule'; dot = length (rhs_of r.flat rule'); origin = m; end = end }

      waits : part_of r.flat rule d ≡ Some (lhs_of r.flat rule')
      waits = part ∙ ap Some (sym left)

      inside : InSet r.flat (edges_of r) (top_of r) m parent
      inside = (waits_exact r read.is m parent x (omega arith) part).0 there

      low : origin ≤ m
      low = origin_below r.flat (edges_of r) (top_of r) (at_top r read.is) (goes r read.is) inside

      -- where it leads, its only parent does
      led : {t : Item} → Leads m (lhs_of r.flat rule') t → IsAskedBy w ranking r first t
      led (LeadsTo.Last {item = leo} l none) = subst (λ z. IsAskedBy w ranking r first (advanced z)) (l.only parent inside waits) under.asked
      led {t = t} (LeadsTo.On {item = leo} l more) =
          let same : parent ≡ leo = l.only parent inside waits in
          under.above (subst (λ z. IsWhole r.flat (advanced z)) (sym same) l.last) t (
            (let e = same_end in let o = low in omega arith),
            subst (λ (z : Item). Leads z.origin (lhs_of r.flat z.rule) t) (sym same) more,
          )

      chosen : ¬ IsOutranked w ranking r first.end (item_of node)
      chosen = not_outranked w r read.is first.end (subst (λ z. z ≤ earleme_of r) same_end le) (item_of node) ranking
          (subst (λ z. allowed_by w ranking r.flat (edges_of r) rule' m z) same_end (met_allowed ((used_met w ranking r read node).0 used).1 refl))

      -- that of a whole rule as the last part
      pub whole_under : IsUnder w ranking r first node
      whole_under = record {
        end = under.end;
        asked = (
          (let o = under.asked.0 in let l = low in omega arith),
          elim (leo_known r read.is end le m (lhs_of r.flat rule') lt) [
            | inl (leo, l) ↦
                let (t, leads, u) = above_used r.flat (edges_of r) (allowed_by w ranking r.flat (edges_of r)) (top_of r) (at_top r read.is) (goes r read.is) (earleme_of r)
                (only r.flat r.edges read.is.flat read.is.forward) read.is.flat.no_rules
                (leaves_some r.flat w read.is.flat r.edges (λ s p q h. read.is.forward (record { symbol = s; from = p; to = q }) h) ranking)
                node (leo_known r read.is end le) used refl leo l in
                Over (inr (refl, (chosen, inl ((let e = same_end in omega arith), leads)))) (led leads).1
            | inr none ↦ Over (inr (refl, (chosen, inr ((λ other (before, (leo, l, q)). none leo l), (parent, there, waits, refl))))) under.asked.1
          ],
        );
        above = λ full t up. led up.1;
      }
