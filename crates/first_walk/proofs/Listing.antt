-- What is listed for a first node has all that may be the last part of a node that it asks for.
use Rattle.std.proofs.Common.{◌≡◌, ◌⊎◌, inl, inr, ◌↔◌, ℕ, suc, ◌-◌, ◌<◌, ◌≤◌, List, [], ◌∷◌, Some, None, length, Contains, sym, ◌∙◌, subst, arith}
use Rattle.std.specs.List.Sorted.{IsStrictlySortedBy}
use Rattle.grammar_model.specs.declared.Ranking.{Ranking}
use Rattle.grammar_model.specs.Grammar.{Grammar}
use Rattle.recognizer_model.specs.declared.Item.{Item}
use Rattle.recognizer_model.specs.declared.NodeKey.{NodeKey}
use Rattle.recognizer_model.specs.Below.{item_of}
use Rattle.recognizer_model.specs.Counts.{IsListOf}
use Rattle.recognizer_model.specs.Flat.{lhs_of, rhs_of, part_of}
use Rattle.recognizer_model.specs.Items.{InSet, advanced}
use Rattle.recognizer_model.specs.Leo.{IsHidden, IsLeo, IsNotLeo, LeadsTo}
use Rattle.recognizer_model.specs.Chosen.{allowed_by}
use Rattle.recognizer_model.proofs.Leo.{origin_below}
use Rattle.recognizer_model.proofs.Leaving.{leaves_some}
use Rattle.recognizer_model.proofs.Below.{above_used}
use Rattle.earley_sets.specs.Recognizer.{Recognizer, IsRecognizer, earleme_of, edges_of, top_of}
use Rattle.earley_sets.proofs.Recognizing.{only}
use Rattle.forest_parts.specs.declared.parts.Part.{Part}
use Rattle.forest_parts.specs.Needed.{IsBelowAsked}
use Rattle.forest_parts.specs.Parts.{part_cmp, IsPart, IsPartAt, IsPartBy, IsWholeOf}
use Rattle.forest_parts.proofs.Listed.{leo_known, kept_or_hidden, stays, listed_part}
use Rattle.forest_parts.proofs.Sets.{at_top, goes, waits_exact}
use Rattle.forest_parts.proofs.Tops.{below_hidden}
use Rattle.bocage.specs.Walk.{IsRead, IsUsedIn, predecessor_of_key}
use Rattle.bocage.proofs.Splits.{used_within}
use Rattle.first_walk.specs.Place.{IsAskedBy, IsNeededBy, IsListed, IsUnder, HaveLast}

-- WHAT IS LISTED WITH THE HIDDEN ITEMS THAT THE NODE ASKS FOR

module _ (w : Grammar) (ranking : Ranking) (r : Recognizer) (is : IsRecognizer r) (first : NodeKey) (le : first.end ≤ earleme_of r) (items : List Item)
    (lists : IsListOf (IsBelowAsked w ranking r (first ∷ []) first.end first.origin) items) where
  pub are_hidden : (item : Item) → Contains items item → IsHidden r.flat (edges_of r) (top_of r) first.end item
  are_hidden item h = (below_hidden w ranking r is (first ∷ []) first.end first.origin item ((lists.exact item).0 h)).0

  by_items : (p : Part) → IsPartAt w ranking r first.end first.origin p → IsNeededBy w ranking r first p → IsPartBy w ranking r first.end first.origin items p
  by_items p (inl (e, held, edge), here, bound) need =
      let s = edge.start in
      let t = edge.end in
      inl (e, (held, sym edge.end ∙ here), (omega arith, edge))
  by_items p (inr (earleme, item, le', inside, whole), here, bound) (start, sum, need) =
      let same : earleme ≡ first.end = sym whole.end ∙ here in
      let whole' : IsWholeOf w ranking r.flat first.end item p = subst (λ z. IsWholeOf w ranking r.flat z item p) same whole in
      let inside' : InSet r.flat (edges_of r) (top_of r) first.end item = subst (λ z. InSet r.flat (edges_of r) (top_of r) z item) same inside in
      let a = whole'.start in
      let origin : start ≡ item.origin = omega arith in
      inr (
        item,
        elim (kept_or_hidden r is first.end le item inside') [
          | inl c ↦ inl c
          | inr hidden ↦ elim need [
            | inl none ↦ (let q : Some _ ≡ None = sym whole.whole ∙ none in absurd (cc))
            | inr (inl none) ↦ inl (stays r is first.end le item inside' (subst (λ x. IsNotLeo r.flat (edges_of r) (top_of r) item.origin x) whole.symbol (subst (λ i. IsNotLeo r.flat (edges_of r) (top_of r) i p.symbol) origin none)))
            | inr (inr (t, leads, asked)) ↦
                inr ((lists.exact item).1 (t, (hidden, subst (λ x. LeadsTo r.flat (edges_of r) (top_of r) item.origin x t) whole.symbol (subst (λ i. LeadsTo r.flat (edges_of r) (top_of r) i p.symbol t) origin leads)), asked))
          ]
        ],
        (omega arith, whole'),
      )

  pub listed_by : (parts : List Part) → IsStrictlySortedBy part_cmp parts → ((p : Part) → Contains parts p ↔ IsPartBy w ranking r first.end first.origin items p) → IsListed w ranking r first parts
  listed_by parts sorted exact = record {
    within = le;
    are = λ p h. listed_part w ranking r is first.end first.origin le items are_hidden p ((exact p).0 h);
    all = λ p at need. (exact p).1 (by_items p at need);
    sorted = sorted;
  }

-- WHAT A NODE NEEDS OF IT

module _ (w : Grammar) (ranking : Ranking) (r : Recognizer) (read : IsRead w r) (first key : NodeKey) (parts : List Part) (listed : IsListed w ranking r first parts)
    (under : IsUnder w ranking r first key) (used : IsUsedIn w ranking r key) where
  abbrev predecessor : Item
  predecessor = predecessor_of_key key

  same_end : key.end ≡ first.end
  same_end = under.end

  inside : key.end ≤ earleme_of r
  inside = (used_within w ranking r read key used).inside

  dot_is : key.dot ≡ suc (key.dot - 1)
  dot_is = let s = (used_within w ranking r read key used).some in omega arith

  -- the node's item is that of one part more
  one_more : item_of key ≡ advanced predecessor
  one_more = λ i. record { rule = key.rule; dot = dot_is i; origin = key.origin }

  long : (p : Part) → IsPart w ranking r p → 0 < p.length
  long p (inl (e, i, is)) = let f = read.is.forward e i in let s = is.start in let t = is.end in omega arith
  long p (inr (earleme, whole, le, i, is)) = let f = is.spans in let s = is.start in omega arith

  module _ (start x : ℕ) (lt : start < key.end) (there : InSet r.flat (edges_of r) (top_of r) start predecessor) (waits : part_of r.flat key.rule (key.dot - 1) ≡ Some x) where
    abbrev LeadsAsked : Type 0
    LeadsAsked = (t : Item) × LeadsTo r.flat (edges_of r) (top_of r) start x t × IsAskedBy w ranking r first t

    early : key.origin < key.end
    early =
        let low : key.origin ≤ start = origin_below r.flat (edges_of r) (top_of r) (at_top r read.is) (goes r read.is) there in
        omega arith

    -- the node's item is topmost, or leads up to one that is asked for
    on : IsLeo r.flat (edges_of r) (top_of r) start x predecessor →
        ((other : Item) × IsLeo r.flat (edges_of r) (top_of r) key.origin (lhs_of r.flat key.rule) other) ⊎ IsNotLeo r.flat (edges_of r) (top_of r) key.origin (lhs_of r.flat key.rule) → LeadsAsked
    on l (inr none) = (advanced predecessor, LeadsTo.Last l none, subst (λ z. IsAskedBy w ranking r first z) one_more under.asked)
    on l (inl (other, up)) =
        let whole : key.dot ≡ length (rhs_of r.flat key.rule) = dot_is ∙ l.last in
        let (t, leads, u) = above_used r.flat (edges_of r) (allowed_by w ranking r.flat (edges_of r)) (top_of r) (at_top r read.is) (goes r read.is) (earleme_of r)
        (only r.flat r.edges read.is.flat read.is.forward) read.is.flat.no_rules
        (leaves_some r.flat w read.is.flat r.edges (λ s p q h. read.is.forward (record { symbol = s; from = p; to = q }) h) ranking)
        key (leo_known r read.is key.end inside) used whole other up in
        (t, LeadsTo.On l leads, under.above whole t (subst (λ z. key.origin < z) same_end early, leads))

    need : ((leo : Item) × IsLeo r.flat (edges_of r) (top_of r) start x leo) ⊎ IsNotLeo r.flat (edges_of r) (top_of r) start x → IsNotLeo r.flat (edges_of r) (top_of r) start x ⊎ LeadsAsked
    need (inr none) = inl none
    need (inl (leo, l)) =
        let same : predecessor ≡ leo = l.only predecessor there waits in
        inr (on (subst (λ z. IsLeo r.flat (edges_of r) (top_of r) start x z) (sym same) l) (leo_known r read.is key.end inside key.origin (lhs_of r.flat key.rule) early))

    needed : IsNotLeo r.flat (edges_of r) (top_of r) start x ⊎ LeadsAsked
    needed = need (leo_known r read.is key.end inside start x lt)

  -- so what is listed for the first one has them all
  pub have_last : HaveLast w ranking r key parts
  have_last = record {
    within = inside;
    are = λ p h. (let (is, here, bound) = listed.are p h in (is, here ∙ sym same_end, (let e = same_end in omega arith)));
    all = λ p (is, here, bound) (start, sum, part, kept). (
        let l = long p is in
        let e = same_end in
        let i = inside in
        let there = (waits_exact r read.is start predecessor p.symbol (omega arith) part).0 kept in
        let low : key.origin ≤ start = origin_below r.flat (edges_of r) (top_of r) (at_top r read.is) (goes r read.is) there in
        let late : first.origin ≤ key.origin = under.asked.0 in
        listed.all p (is, here ∙ same_end, omega arith) (start, omega arith, inr (needed start p.symbol (omega arith) there part))
        );
    sorted = listed.sorted;
  }
