-- The nodes of a slot's rules over a span are met as the cause of an alternative, all together: no group has to be searched for.
use Rattle.std.proofs.Common.{◌≡◌, ℕ, suc, ◌<◌, List, length, ◌⊎◌, inl, inr, Some, None, Contains, refl, sym, ap, ◌∙◌, subst, arith}
use Rattle.std.specs.Prelude.{slice_index_or}
use Rattle.std.proofs.lemmas.Option.{slice_get-get_or}
use Rattle.finite_sets.proofs.Lists.{get_index, none_at_end, get_among, among_get}
use Rattle.finite_sets.proofs.Members.{Among, among_from, contains_from, among_map_from}
use Rattle.grammar_model.specs.Trees.{Children, Node}
use Rattle.recognizer_model.specs.declared.NodeKey.{NodeKey}
use Rattle.recognizer_model.specs.Invariant.{IsFlat}
use Rattle.recognizer_model.specs.Flat.{FlatGrammar, IsRule, lhs_of, rhs_of, part_of}
use Rattle.recognizer_model.specs.FlatDerives.{Rule, Spans}
use Rattle.recognizer_model.specs.Nodes.{IsUsed, IsMet, Whole, Before, Last, UsedAreMet}
use Rattle.recognizer_model.specs.Chosen.{Allowed}
use Rattle.grammar_model.specs.Derives.{Edges}
use Rattle.forest_laws.specs.Lists.{cause_symbol}
use Rattle.glade_laws.proofs.Falling.{part_is}
use Rattle.forest_model.specs.Forest.{Cause, AnEdge, Nothing, Wholes, Alternative, ForestNode, Forest, edges_of, allowed_of, top_of, IsForest, IsNode, whole_key, IsCause, AreWholes, AreAlternatives, IsSplit}

module _ (g : FlatGrammar) (E : Edges) (allowed : Allowed) (top place : ℕ) where
  -- what a whole rule that is met was met from
  pub record IsCaused (r p q : ℕ) : Type 0 where
    pub outer : ℕ
    pub dot : ℕ
    pub origin : ℕ
    pub met : IsMet g E allowed top place outer (suc dot) origin q
    pub before : Children
    pub spans : Spans g E outer dot origin p before
    pub part : part_of g outer dot ≡ Some (lhs_of g r)
    pub is_rule : IsRule g r
    pub forward : p < q
    pub children : Children
    pub whole : Spans g E r (length (rhs_of g r)) p q children
    pub is_allowed : allowed r p q

  pub caused : {r dot p q : ℕ} → IsMet g E allowed top place r dot p q → dot ≡ length (rhs_of g r) → (r ≡ top) ⊎ IsCaused r p q
  caused (Whole lt s) whole = inl refl
  caused (Before {r = r} {d = d} {x = x} met s part t) whole = absurd (cc' (sym part ∙ none_at_end (rhs_of g r) d whole))
    where
      cc' : {x : ℕ} → Some x ≡ None → ⊥
      cc' e = cc
  caused (Last {r = r} {r' = r'} {d = d} {p = p} {m = m} {q = q} {cs = cs} {cs' = cs'} met s part rule lt s' is) whole = inr (record {
    outer = r;
    dot = d;
    origin = p;
    met = met;
    before = cs;
    spans = s;
    part = part;
    is_rule = rule;
    forward = lt;
    children = cs';
    whole = s';
    is_allowed = is;
  })

module _ (f : Forest) (is : IsForest f) (law : UsedAreMet f.flat (edges_of f) (allowed_of f) (top_of f)) where
  abbrev g : FlatGrammar
  g = f.flat

  abbrev flat : IsFlat f.flat
  flat = is.derived.flat

  -- a node of this forest that has the group of the rule over the span as a cause
  pub record IsCauseThere (r p q : ℕ) : Type 0 where
    pub node : ForestNode
    pub held : Contains f.nodes node
    pub alternative : Alternative
    pub has : Contains node.alternatives alternative
    pub nodes : List ℕ
    pub cause_is : alternative.cause ≡ Wholes nodes
    pub symbol_is : cause_symbol f node.key ≡ lhs_of f.flat r
    pub start_is : alternative.start ≡ p
    pub end_is : node.key.end ≡ q
    pub group : AreWholes f (lhs_of f.flat r) p q nodes
    pub number : ℕ
    pub among : Among number nodes
    pub is_node : IsNode f number (whole_key f r p q)

  node_of : (key : NodeKey) → IsUsed g (edges_of f) (allowed_of f) (top_of f) f.place key → (node : ForestNode) × Contains f.nodes node × (node.key ≡ key)
  node_of key used =
      let (node, m, e) = among_map_from (λ (n : ForestNode). n.key) key f.nodes (among_from _ key ((is.used.exact key).1 used)) in
      (node, contains_from f.nodes node m, e)

  pub groups_are_causes : (r p q : ℕ) → IsUsed g (edges_of f) (allowed_of f) (top_of f) f.place (whole_key f r p q) → (r ≡ top_of f) ⊎ IsCauseThere r p q
  groups_are_causes r p q used = elim (caused g (edges_of f) (allowed_of f) (top_of f) f.place ((law f.place (whole_key f r p q)).0 used).1 refl) [
    | inl top ↦ inl top
    | inr c ↦ inr (at c (node_of (outer_key c) ((law f.place (outer_key c)).1 (omega arith, c.met))))
  ]
    where
      outer_key : IsCaused g (edges_of f) (allowed_of f) (top_of f) f.place r p q → NodeKey
      outer_key c = record { rule = c.outer; dot = suc c.dot; origin = c.origin; end = q }

      at : (c : IsCaused g (edges_of f) (allowed_of f) (top_of f) f.place r p q) → (node : ForestNode) × Contains f.nodes node × (node.key ≡ outer_key c) → IsCauseThere r p q
      at c (node, held, key) = by (is.alternatives node held)
        where
          some_inj : {x y : ℕ} → Some x ≡ Some y → x ≡ y
          some_inj e = cc

          by : AreAlternatives f node.key node.alternatives → IsCauseThere r p q
          by a = found
            where
              dot : a.dot ≡ c.dot
              dot = let e = a.dot_is in let e' : node.key.dot ≡ suc c.dot = ap (λ (k : NodeKey). k.dot) key in omega (arith, e, e')

              symbol : a.symbol ≡ lhs_of g r
              symbol = some_inj (sym a.part ∙ (λ i. part_of g ((key i).rule) (dot i)) ∙ c.part)

              split : IsSplit f node.key.rule a.dot node.key.origin a.symbol p node.key.end
              split =
                  subst (λ x. IsSplit f node.key.rule a.dot node.key.origin x p node.key.end) (sym symbol)
                  (subst (λ d. IsSplit f node.key.rule d node.key.origin (lhs_of g r) p node.key.end) (sym dot)
                  (subst (λ (k : NodeKey). IsSplit f k.rule c.dot k.origin (lhs_of g r) p k.end) (sym key)
                  (record { children = c.before; predecessor = c.spans; tree = Node r c.children p q; cause = Rule c.is_rule refl c.forward c.whole })))

              found : IsCauseThere r p q
              found =
                  let (b, m, start) = among_map_from (λ (d : Alternative). d.start) p node.alternatives (among_from _ p ((a.exact p).1 split)) in
                  let there = contains_from node.alternatives b m in
                  by_cause b start there b.cause refl
                  (subst (λ x. IsCause f x p q b.cause) symbol (subst (λ s. IsCause f a.symbol s q b.cause) start
                  (subst (λ e. IsCause f a.symbol b.start e b.cause) (ap (λ (k : NodeKey). k.end) key) (a.each b there).cause)))
                where
                  by_cause : (b : Alternative) → b.start ≡ p → Contains node.alternatives b → (cause : Cause) → b.cause ≡ cause → IsCause f (lhs_of g r) p q cause → IsCauseThere r p q
                  by_cause b start there AnEdge e (t, at, edge) = absurd (flat.no_rules r c.is_rule (t, at))
                  by_cause b start there Nothing e (same, null) = let lt = c.forward in absurd (omega (arith, same, lt))
                  by_cause b start there (Wholes nodes) e wholes =
                      let (i, rule_at) = among_get wholes.rules r (among_from wholes.rules r ((wholes.exact r).1 (record { is_rule = c.is_rule; left = refl; children = c.children; spans = c.whole }, c.is_allowed))) in
                      let lt = (get_index wholes.rules i 0 r rule_at).0 in
                      let count = wholes.all in
                      let number_at = slice_get-get_or nodes i 0 (omega (arith, lt, count)) in
                      record {
                        node = node;
                        held = held;
                        alternative = b;
                        has = there;
                        nodes = nodes;
                        cause_is = e;
                        symbol_is = part_is f is node a ∙ symbol;
                        start_is = start;
                        end_is = ap (λ (k : NodeKey). k.end) key;
                        group = wholes;
                        number = slice_index_or nodes i 0;
                        among = get_among nodes i (slice_index_or nodes i 0) number_at;
                        is_node = wholes.each i (slice_index_or nodes i 0) r number_at rule_at;
                      }
