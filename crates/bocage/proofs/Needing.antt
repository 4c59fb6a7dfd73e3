-- Which hidden items are needed: those below used topmost items. Where a node is used, all parts that may be its causes are needed ones.
use Rattle.std.proofs.Common.{◌≡◌, ◌⊎◌, inl, inr, ◌↔◌, ℕ, suc, ◌+◌, ◌<◌, ◌≤◌, List, Some, None, length, Contains, slice_get, refl, sym, ◌∙◌, ap, subst, arith}
use Rattle.std.proofs.lemmas.Bool.{cases_lt}
use Rattle.grammar_model.specs.Trees.{Tree}
use Rattle.grammar_model.specs.declared.Ranking.{Ranking}
use Rattle.grammar_model.specs.Grammar.{Grammar}
use Rattle.recognizer_model.specs.declared.Item.{Item}
use Rattle.recognizer_model.specs.declared.NodeKey.{NodeKey}
use Rattle.recognizer_model.specs.Flat.{lhs_of, rhs_of, IsNullable}
use Rattle.recognizer_model.specs.FlatDerives.{Derives, Token, Null, Rule}
use Rattle.recognizer_model.specs.Items.{InSet, IsWhole, after, advanced}
use Rattle.recognizer_model.specs.Leo.{IsLeo, IsNotLeo, LeadsTo}
use Rattle.recognizer_model.specs.Chosen.{allowed_by}
use Rattle.recognizer_model.specs.Nodes.{IsMet, Whole, Before, Last}
use Rattle.recognizer_model.proofs.Leo.{past_end, origin_below}
use Rattle.recognizer_model.proofs.Leaving.{leaves_some}
use Rattle.recognizer_model.specs.Below.{node_of}
use Rattle.recognizer_model.proofs.Below.{above_used}
use Rattle.earley_sets.specs.Recognizer.{Recognizer, IsRecognizer, earleme_of, set_at, edges_of, top_of}
use Rattle.earley_sets.specs.Below.{LeadsUp}
use Rattle.earley_sets.proofs.Recognizing.{only}
use Rattle.forest_parts.specs.declared.parts.Part.{Part}
use Rattle.forest_parts.specs.Parts.{IsPartAt, IsPartBy, IsWholeOf}
use Rattle.forest_parts.specs.Unasked.{IsOutranked, IsAskedFor, Met, Over}
use Rattle.forest_parts.specs.Hidden.{IsHiddenFrom}
use Rattle.forest_parts.specs.Needed.{IsBelowAsked}
use Rattle.forest_parts.proofs.Sets.{at_top, goes, waits_exact}
use Rattle.forest_parts.proofs.Listed.{leo_known, kept_or_hidden, stays}
use Rattle.forest_parts.proofs.LeftOut.{not_outranked}
use Rattle.bocage.specs.declared.rows.AlternativeRow.{AlternativeRow}
use Rattle.bocage.specs.declared.walk.Known.{Known}
use Rattle.bocage.specs.declared.walk.Found.{Found}
use Rattle.bocage.specs.Walk.{IsRead, IsNext, Knows, node_after}
use Rattle.forest_parts.specs.Chains.{EndsAt}
use Rattle.bocage.specs.Ends.{IsGoing}
use Rattle.bocage.specs.Needed.{IsItemUsed, AreNeeded, IsNeeded}
use Rattle.bocage.proofs.Splits.{waits_in, met_stands, met_within, derives_forward, used_met}
use Rattle.bocage.proofs.Asking.{asked}
use Rattle.bocage.proofs.Expanding.{reached}

-- THE PARTS OF A USED NODE

module _ (k : Known) (knows : Knows k) (predecessor : Item) (symbol : ℕ) (next : IsNext k predecessor symbol) (m : ℕ) (lt : m < k.end) (there : Contains (set_at k.recce.now m) predecessor) where
  inside : InSet k.recce.now.flat (edges_of k.recce.now) (top_of k.recce.now) m predecessor
  inside = let e = knows.end in (waits_exact k.recce.now knows.is m predecessor symbol (omega arith) next.part).0 there

  early : predecessor.origin < k.end
  early = let le = origin_below k.recce.now.flat (edges_of k.recce.now) (top_of k.recce.now) (at_top k.recce.now knows.is) (goes k.recce.now knows.is) inside in omega arith

  abbrev LeadsUsed : ℕ → Type 0
  LeadsUsed x = (topmost : Item) × LeadsTo k.recce.now.flat (edges_of k.recce.now) (top_of k.recce.now) m x topmost × IsItemUsed k.written.now k.ranking k.recce.now k.end topmost

  -- the node's item is topmost, or leads up to a used one
  ends_used : (x : ℕ) → IsLeo k.recce.now.flat (edges_of k.recce.now) (top_of k.recce.now) m x predecessor →
      ((other : Item) × IsLeo k.recce.now.flat (edges_of k.recce.now) (top_of k.recce.now) predecessor.origin (lhs_of k.recce.now.flat predecessor.rule) other) ⊎
      IsNotLeo k.recce.now.flat (edges_of k.recce.now) (top_of k.recce.now) predecessor.origin (lhs_of k.recce.now.flat predecessor.rule) → LeadsUsed x
  ends_used x l (inr none) = (advanced predecessor, LeadsTo.Last l none, next.used)
  ends_used x l (inl (other, up)) =
      let (t, leads, used) = above_used k.recce.now.flat (edges_of k.recce.now) (allowed_by k.written.now k.ranking k.recce.now.flat (edges_of k.recce.now)) (top_of k.recce.now) (at_top k.recce.now knows.is) (goes k.recce.now knows.is) (earleme_of k.recce.now)
      (only k.recce.now.flat k.recce.now.edges knows.is.flat knows.is.forward) knows.is.flat.no_rules
      (leaves_some k.recce.now.flat k.written.now knows.is.flat k.recce.now.edges (λ s p q h. knows.is.forward (record { symbol = s; from = p; to = q }) h) k.ranking)
      (node_after predecessor k.end) (leo_known k.recce.now knows.is k.end knows.end) next.used l.last other up in
      (t, LeadsTo.On l leads, used)

  need_by : (x : ℕ) → x ≡ symbol → ((leo : Item) × IsLeo k.recce.now.flat (edges_of k.recce.now) (top_of k.recce.now) m x leo) ⊎ IsNotLeo k.recce.now.flat (edges_of k.recce.now) (top_of k.recce.now) m x →
      IsNotLeo k.recce.now.flat (edges_of k.recce.now) (top_of k.recce.now) m x ⊎ LeadsUsed x
  need_by x s (inr none) = inl none
  need_by x s (inl (leo, l)) =
      let same : predecessor ≡ leo = l.only predecessor inside (next.part ∙ ap Some (sym s)) in
      inr (ends_used x (subst (λ z. IsLeo k.recce.now.flat (edges_of k.recce.now) (top_of k.recce.now) m x z) (sym same) l)
      (leo_known k.recce.now knows.is k.end knows.end predecessor.origin (lhs_of k.recce.now.flat predecessor.rule) early))

  -- what may be its cause is needed
  pub is_needed : (p : Part) → p.symbol ≡ symbol → m + p.length ≡ k.end → IsNeeded k.written.now k.ranking k.recce.now k.end p
  is_needed p s sum = (m, sum, inr (need_by p.symbol s (leo_known k.recce.now knows.is k.end knows.end m p.symbol lt)))

-- WHAT IS LISTED

leads_whole : (r : Recognizer) {i x : ℕ} {t : Item} → LeadsTo r.flat (edges_of r) (top_of r) i x t → IsWhole r.flat t
leads_whole r (LeadsTo.Last leo none) = leo.last
leads_whole r (LeadsTo.On leo more) = leads_whole r more

-- ITEMS THAT ARE ASKED FOR

module _ (w : Grammar) (ranking : Ranking) (r : Recognizer) (read : IsRead w r) (end first : ℕ) (f : Found) (table : List (List AlternativeRow)) (going : IsGoing w ranking r end first f table) where
  null_of : {x p q : ℕ} {t : Tree} → Derives r.flat (edges_of r) x p q t → q ≤ p → IsNullable r.flat x
  null_of (Token {p = p} {q = q} (t, e, h)) le = let lt = read.is.forward (record { symbol = t; from = p; to = q }) h in absurd (omega arith)
  null_of (Null n) le = n
  null_of (Rule is left lt s) le = absurd (omega arith)

  module _ (le : end ≤ earleme_of r) where
    -- the item of a used node that ends here is asked for, and so is the topmost one that it leads up to
    record AreAsked (item : Item) : Type 0 where
      itself : IsAskedFor w ranking r f.keys.keys end item
      above : IsWhole r.flat item → (t : Item) → LeadsUp r end item t → IsAskedFor w ranking r f.keys.keys end t

    -- where a whole item leads, its only parent does
    led : {m x : ℕ} {t : Item} (parent : Item) → LeadsTo r.flat (edges_of r) (top_of r) m x t → m < end → InSet r.flat (edges_of r) (top_of r) m parent → after r.flat parent ≡ Some x → AreAsked (advanced parent) → IsAskedFor w ranking r f.keys.keys end t
    led {m = m} parent (LeadsTo.Last {item = leo} l none) lt inside e are =
        subst (λ z. IsAskedFor w ranking r f.keys.keys end (advanced z)) (l.only parent inside e) are.itself
    led {m = m} {t = t} parent (LeadsTo.On {item = leo} l more) lt inside e are =
        let same = l.only parent inside e in
        let low = origin_below r.flat (edges_of r) (top_of r) (at_top r read.is) (goes r read.is) inside in
        are.above (subst (λ z. IsWhole r.flat (advanced z)) (sym same) l.last) t (omega arith, subst (λ (z : Item). LeadsTo r.flat (edges_of r) (top_of r) z.origin (lhs_of r.flat z.rule) t) (sym same) more)

    are_asked : {rule d p q : ℕ} → IsMet r.flat (edges_of r) (allowed_by w ranking r.flat (edges_of r)) (top_of r) (earleme_of r) rule d p q → 0 < d → q ≡ end → AreAsked (record { rule = rule; dot = d; origin = p })
    are_asked (Whole lt s) some same = record {
      itself = Met (subst (λ z. Contains f.keys.keys (record { rule = top_of r; dot = length (rhs_of r.flat (top_of r)); origin = 0; end = z })) same (going.top lt));
      above = λ full t up. absurd (outermost up.1);
    }
      where
        outermost : {i : ℕ} {t : Item} → LeadsTo r.flat (edges_of r) (top_of r) i (lhs_of r.flat (top_of r)) t → ⊥
        outermost (LeadsTo.Last {item = leo} l none) = (at_top r read.is).outermost leo.rule leo.dot l.waits
        outermost (LeadsTo.On {item = leo} l more) = (at_top r read.is).outermost leo.rule leo.dot l.waits
    are_asked (Before {r = rule} {d = d} {p = p} {m = m} {q = q} {x = x} {cs = cs} {t = tr'} met s e tr) some same = record {
      itself = elim (cases_lt m q) [
        | inl lt ↦ Met (subst (λ z. Contains f.keys.keys (record { rule = rule; dot = d; origin = p; end = z })) same
            (asked w ranking r read (suc end) f.keys.keys f.wholes.items table (λ n k at le. going.visited n k at (omega arith)) (λ k lt' e'. subst (λ z. Contains f.keys.keys z) (sym e') (going.top lt')) met (omega arith) s e tr some))
        | inr ge ↦
            let ahead = derives_forward r read.is tr in
            Over (inl ((x, e, null_of tr (omega arith)), refl)) (are_asked met (omega arith) (omega arith)).itself
      ];
      above = λ full t up. absurd (past_end (rhs_of r.flat rule) d x full e);
    }
    are_asked (Last {r = rule} {r' = rule'} {d = d} {p = p} {m = m} {q = q} {cs = cs} {cs' = cs'} met s e is lt s' best) some same =
        let ih : AreAsked (record { rule = rule; dot = suc d; origin = p }) = are_asked met (omega arith) same in
        record {
          itself = elim (leo_known r read.is end le m (lhs_of r.flat rule') (omega arith)) [
            | inl (leo, l) ↦
                let node : NodeKey = record { rule = rule'; dot = length (rhs_of r.flat rule'); origin = m; end = q } in
                let (t, leads, used) = above_used r.flat (edges_of r) (allowed_by w ranking r.flat (edges_of r)) (top_of r) (at_top r read.is) (goes r read.is) (earleme_of r)
                (only r.flat r.edges read.is.flat read.is.forward) read.is.flat.no_rules
                (leaves_some r.flat w read.is.flat r.edges (λ s p q h. read.is.forward (record { symbol = s; from = p; to = q }) h) ranking)
                node (leo_known r read.is q (omega arith)) ((used_met w ranking r read node).1 (some, Last met s e is lt s' best)) refl leo l in
                Over (inr (refl, (chosen, inl (omega arith, leads)))) (led parent leads (omega arith) inside e ih)
            | inr none ↦ Over (inr (refl, (chosen, inr ((λ other (before, (leo, l, q)). none leo l), (parent, there, e, refl))))) ih.itself
          ];
          above = λ full t (before, leads). led parent leads (omega arith) inside e ih;
        }
      where
        parent : Item
        parent = record { rule = rule; dot = d; origin = p }

        whole : Item
        whole = record { rule = rule'; dot = length (rhs_of r.flat rule'); origin = m }

        chosen : ¬ IsOutranked w ranking r end whole
        chosen = not_outranked w r read.is end le whole ranking (subst (λ z. allowed_by w ranking r.flat (edges_of r) rule' m z) same best)

        there : Contains (set_at r m) parent
        there =
            let (is_rule, stands) = met_stands r read.is met in
            let (a, b, c) = met_within r read.is met in
            (waits_in r read.is m parent (lhs_of r.flat rule') (omega arith) e).1 (record { is_rule = is_rule; may_stand = stands; children = cs; spans = s })

        inside : InSet r.flat (edges_of r) (top_of r) m parent
        inside = (let (a, b, c) = met_within r read.is met in (waits_exact r read.is m parent (lhs_of r.flat rule') (omega arith) e).0 there)

  module _ (nodes : List ℕ) (listed : (n : ℕ) → Contains nodes n ↔ ((n < first) × EndsAt f.keys.keys end n)) (least : ℕ) (low : (n : ℕ) (key : NodeKey) → Contains nodes n → slice_get f.keys.keys n ≡ Some key → least ≤ key.origin)
      (whole : end ≡ earleme_of r → least ≡ 0) where
    late : (t : Item) → IsItemUsed w ranking r end t → least ≤ t.origin
    late t used = elim (cases_lt end (earleme_of r)) [
      | inl lt ↦ (let (n, k, h, at, below) = reached w ranking r read end first f table going nodes listed (λ e. let q : end ≡ earleme_of r = e in absurd (omega arith)) (node_of t end) used refl in let l = low n k h at in omega arith)
      | inr ge ↦ (let (a, b, c) = met_within r read.is ((used_met w ranking r read (node_of t end)).0 used).1 in let z = whole (omega arith) in omega arith)
    ]

    -- so all that is needed is listed
    pub needed_are : end ≤ earleme_of r → (items : List Item) → ((item : Item) → Contains items item → IsHiddenFrom r end least item) → ((item : Item) → IsBelowAsked w ranking r f.keys.keys end least item → Contains items item) → AreNeeded w ranking r end least items
    needed_are le items hidden all = record {
      hidden = hidden;
      all = λ t item stands used. (let (some, met) = (used_met w ranking r read (node_of t end)).0 used in all item (t, stands, (late t used, (are_asked le met some refl).itself)));
    }

-- THE PARTS THAT ARE LISTED BY IT

module _ (w : Grammar) (ranking : Ranking) (r : Recognizer) (is : IsRecognizer r) (end least : ℕ) (le : end ≤ earleme_of r) (given : List Item) (needed : AreNeeded w ranking r end least given) (p : Part) where
  pub needed_listed : IsPartAt w ranking r end least p → IsNeeded w ranking r end p → IsPartBy w ranking r end least given p
  needed_listed (inl (e, held, edge), here, bound) need =
      let s = edge.start in
      let t = edge.end in
      inl (e, (held, sym edge.end ∙ here), (omega arith, edge))
  needed_listed (inr (earleme, item, le', inside, whole), here, bound) (start, sum, need) =
      let same : earleme ≡ end = sym whole.end ∙ here in
      let whole' : IsWholeOf w ranking r.flat end item p = subst (λ z. IsWholeOf w ranking r.flat z item p) same whole in
      let inside' : InSet r.flat (edges_of r) (top_of r) end item = subst (λ z. InSet r.flat (edges_of r) (top_of r) z item) same inside in
      let a = whole'.start in
      let origin : start ≡ item.origin = omega arith in
      inr (
        item,
        elim (kept_or_hidden r is end le item inside') [
          | inl c ↦ inl c
          | inr hidden ↦ elim need [
            | inl none ↦ (let q : Some _ ≡ None = sym whole.whole ∙ none in absurd (cc))
            | inr (inl none) ↦ inl (stays r is end le item inside' (subst (λ x. IsNotLeo r.flat (edges_of r) (top_of r) item.origin x) whole.symbol (subst (λ i. IsNotLeo r.flat (edges_of r) (top_of r) i p.symbol) origin none)))
            | inr (inr (t, leads, used)) ↦
                inr (needed.all t item (hidden, subst (λ x. LeadsTo r.flat (edges_of r) (top_of r) item.origin x t) whole.symbol (subst (λ i. LeadsTo r.flat (edges_of r) (top_of r) i p.symbol t) origin leads)) used)
          ]
        ],
        (omega arith, whole'),
      )
