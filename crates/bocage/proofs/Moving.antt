-- Nodes that move to a larger forest.
use Rattle.std.proofs.Common.{◌≡◌, ℕ, ◌++◌, ◌↔◌, Contains, List, [], ◌∷◌, Option, Some, None, map, slice_get, refl, sym, ◌∙◌, ap, subst}
use Rattle.std.proofs.lemmas.List.{map-append}
use Rattle.finite_sets.proofs.Lists.{get_left}
use Rattle.grammar_model.specs.declared.Ranking.{Ranking}
use Rattle.grammar_model.specs.Grammar.{Grammar}
use Rattle.recognizer_model.specs.declared.NodeKey.{NodeKey}
use Rattle.earley_sets.specs.Recognizer.{Recognizer, earleme_of}
use Rattle.earley_sets.proofs.Membership.{Contains-first, Contains-rest}
use Rattle.forest_model.specs.Forest.{Forest, ForestNode, Alternative, IsNode, IsPredecessor, IsCause, Cause, AnEdge, Nothing, Wholes, IsWholeOver, IsSplit, AreAlternatives}
use Rattle.bocage.specs.declared.rows.AlternativeRow.{AlternativeRow}
use Rattle.bocage.specs.Rows.{alternative_of, IsCauseWithin}
use Rattle.bocage.specs.Walk.{bare, seen}
use Rattle.bocage.specs.Ends.{HasRow}
use Rattle.bocage.proofs.Growing.{alternative_same, within_more}

module _ (w : Grammar) (ranking : Ranking) (r : Recognizer) (nodes nodes' : List ForestNode) (root root' : Option ℕ) where
  abbrev pub before : Forest
  before = record { written = w; flat = r.flat; start = r.start; edges = r.edges; place = earleme_of r; ranking = ranking; nodes = nodes; root = root }

  abbrev pub behind : Forest
  behind = record { written = w; flat = r.flat; start = r.start; edges = r.edges; place = earleme_of r; ranking = ranking; nodes = nodes'; root = root' }

  module _ (moves : (n : ℕ) (key : NodeKey) → IsNode before n key → IsNode behind n key) where
    over_moved : (symbol m q rule : ℕ) → IsWholeOver before symbol m q rule ↔ IsWholeOver behind symbol m q rule
    over_moved symbol m q rule = (
      λ h. record { is_rule = h.is_rule; left = h.left; children = h.children; spans = h.spans },
      λ h. record { is_rule = h.is_rule; left = h.left; children = h.children; spans = h.spans },
    )

    prefix_moved : (rule dot origin m : ℕ) (o : Option ℕ) → IsPredecessor before rule dot origin m o → IsPredecessor behind rule dot origin m o
    prefix_moved rule dot origin m None h = h
    prefix_moved rule dot origin m (Some n) (lt, h) = (lt, moves n (record { rule = rule; dot = dot; origin = origin; end = m }) h)

    last_moved : (symbol m q : ℕ) (l : Cause) → IsCause before symbol m q l → IsCause behind symbol m q l
    last_moved symbol m q AnEdge h = h
    last_moved symbol m q Nothing h = h
    last_moved symbol m q (Wholes nodes) h = record {
      spans = h.spans;
      some = h.some;
      rules = h.rules;
      sorted = h.sorted;
      exact = λ x. ((λ i. (let (over, best) = (h.exact x).0 i in ((over_moved symbol m q x).0 over, best))), (λ (over, best). (h.exact x).1 ((over_moved symbol m q x).1 over, best)));
      all = h.all;
      each = λ i n s a b. moves n _ (h.each i n s a b);
    }

    split_moved : (rule dot origin symbol m q : ℕ) → IsSplit before rule dot origin symbol m q ↔ IsSplit behind rule dot origin symbol m q
    split_moved rule dot origin symbol m q = (
      λ h. record { children = h.children; predecessor = h.predecessor; tree = h.tree; cause = h.cause },
      λ h. record { children = h.children; predecessor = h.predecessor; tree = h.tree; cause = h.cause },
    )

    pub alternatives_moved : (key : NodeKey) (xs : List Alternative) → AreAlternatives before key xs → AreAlternatives behind key xs
    alternatives_moved key xs h = record {
      dot = h.dot;
      dot_is = h.dot_is;
      symbol = h.symbol;
      part = h.part;
      sorted = h.sorted;
      exact = λ m. ((λ i. (split_moved key.rule h.dot key.origin h.symbol m key.end).0 ((h.exact m).0 i)), (λ s. (h.exact m).1 ((split_moved key.rule h.dot key.origin h.symbol m key.end).1 s)));
      each = λ a i. (let x = h.each a i in record { predecessor = prefix_moved key.rule h.dot key.origin a.start a.predecessor x.predecessor; cause = last_moved h.symbol a.start key.end a.cause x.cause });
    }

pub map_same : (wholes more : List ℕ) (rows : List AlternativeRow) → ((a : AlternativeRow) → Contains rows a → IsCauseWithin wholes a.cause) → map (alternative_of (wholes ++ more)) rows ≡ map (alternative_of wholes) rows
map_same wholes more [] h = refl
map_same wholes more (a ∷ rows) h = λ i. alternative_same wholes more a (h a (Contains-first a rows)) i ∷ map_same wholes more rows (λ b j. h b (Contains-rest a rows b j)) i

-- a node keeps its alternatives where more are met
module _ (w : Grammar) (ranking : Ranking) (r : Recognizer) where
  pub row_stays : (keys keys' mk : List NodeKey) (wholes wholes' mw : List ℕ) (table table' : List (List AlternativeRow)) (n : ℕ) (key : NodeKey) → keys' ≡ keys ++ mk → wholes' ≡ wholes ++ mw →
      (h : HasRow w ranking r keys wholes table n key) → slice_get table' n ≡ Some h.rows → HasRow w ranking r keys' wholes' table' n key
  row_stays keys keys' mk wholes wholes' mw table table' n key ek ew h at = record {
    rows = h.rows;
    at = at;
    are = (
        let moved = alternatives_moved w ranking r (map bare keys) (map bare keys') None None
        (λ x y (node, e, s). (node, subst (λ z. slice_get (map bare z) x ≡ Some node) (sym ek) (subst (λ z. slice_get z x ≡ Some node) (sym (map-append bare keys mk)) (get_left (map bare keys) (map bare mk) x node e)), s))
        key (map (alternative_of wholes) h.rows) h.are in
        let e = ap (λ (z : List ℕ). map (alternative_of z) h.rows) ew ∙ map_same wholes mw h.rows h.within in
        subst (λ z. AreAlternatives (seen w ranking r keys') key z) (sym e) moved
        );
    within = λ a i. subst (λ z. IsCauseWithin z a.cause) (sym ew) (within_more wholes mw a.cause (h.within a i));
  }
