-- Under the ranking by rules nothing is left out, so each node and each cause of a forest stands for something.
use Rattle.std.proofs.Common.{◌≡◌, ℕ, ◌<◌, Some, Contains, sym, subst}
use Rattle.std.specs.Prelude.{slice_get, map}
use Rattle.std.proofs.lemmas.Option.{slice_get-get_or}
use Rattle.finite_sets.proofs.Lists.{get_among}
use Rattle.finite_sets.proofs.Members.{among_from, contains_from, among_map}
use Rattle.grammar_model.specs.Trees.{Tree, Children, Node}
use Rattle.grammar_model.specs.Derives.{Held}
use Rattle.grammar_model.specs.declared.Ranking.TheVariants.{Rule as RuleRanks}
use Rattle.recognizer_model.specs.Flat.{FlatGrammar}
use Rattle.recognizer_model.specs.FlatDerives.{Spans, Derives}
use Rattle.recognizer_model.specs.Invariant.{IsFlat}
use Rattle.recognizer_model.specs.Contexts.{IsTop}
use Rattle.recognizer_model.specs.Acceptable.{OnlyTerminals}
use Rattle.recognizer_model.specs.Chosen.{AreAllowed, AreAllowedIn, allowed_by}
use Rattle.recognizer_model.specs.Nodes.{UsedAreMet, IsUsed}
use Rattle.recognizer_model.proofs.Leaving.{all_ruled, leaves_some}
use Rattle.recognizer_model.proofs.Nodes.{used_are_met, met_spans}
use Rattle.forest_model.specs.Forest.{Alternative, ForestNode, Forest, edges_of, allowed_of, top_of, IsForest, AreAlternatives, IsSplit}
use Rattle.forest_laws.specs.Lists.{Lists}
use Rattle.forest_laws.specs.Laws.{AreAllLists}
use Rattle.glade_laws.proofs.NodeKinds.{IsStocked}
use Rattle.glade_laws.proofs.Falling.{part_is}

module _ (f : Forest) (is : IsForest f) (rule : f.ranking ≡ RuleRanks) where
  abbrev g : FlatGrammar
  g = f.flat

  abbrev flat : IsFlat f.flat
  flat = is.derived.flat

  pub all_allowed : (t : Tree) → AreAllowed (allowed_of f) t
  all_allowed t = subst (λ r. AreAllowed (allowed_by f.written r f.flat (edges_of f)) t) (sym rule) (all_ruled f.written f.flat (edges_of f) t)

  pub all_allowed_in : (cs : Children) → AreAllowedIn (allowed_of f) cs
  all_allowed_in cs = (all_allowed (Node 0 cs 0 0)).1

  pub top_is : IsTop f.flat (top_of f)
  top_is = (flat.tops f.start (top_of f) (slice_get-get_or g.tops f.start 0 is.derived.start)).is_top

  pub only : OnlyTerminals f.flat (edges_of f)
  only x p q e = (e.0, e.1)

  pub held_forward : (s p q : ℕ) → Held f.edges s p q → p < q
  held_forward s p q h = is.derived.forward (record { symbol = s; from = p; to = q }) h

  pub met : UsedAreMet f.flat (edges_of f) (allowed_of f) (top_of f)
  met = used_are_met f.flat (edges_of f) (allowed_of f) (top_of f) top_is only flat.no_rules (leaves_some f.flat f.written flat f.edges held_forward f.ranking)

  module _ (n : ℕ) (node : ForestNode) (there : slice_get f.nodes n ≡ Some node) where
    pub used : IsUsed f.flat (edges_of f) (allowed_of f) (top_of f) f.place node.key
    used =
        (is.used.exact node.key).0 (contains_from (map (λ (n : ForestNode). n.key) f.nodes) node.key (among_map (λ (n : ForestNode). n.key) node f.nodes (get_among f.nodes n node there)))

    pub alternatives_of : AreAlternatives f node.key node.alternatives
    alternatives_of = is.alternatives node (contains_from f.nodes node (get_among f.nodes n node there))

    pub spans_of : (cs : Children) × Spans f.flat (edges_of f) node.key.rule node.key.dot node.key.origin node.key.end cs
    spans_of = met_spans f.flat (edges_of f) (allowed_of f) (top_of f) top_is only flat.no_rules f.place ((met f.place node.key).0 used).1

    pub split_of : (b : Alternative) → Contains node.alternatives b → IsSplit f node.key.rule alternatives_of.dot node.key.origin alternatives_of.symbol b.start node.key.end
    split_of b held =
        (alternatives_of.exact b.start).0 (contains_from (map (λ (a : Alternative). a.start) node.alternatives) b.start (among_map (λ (a : Alternative). a.start) b node.alternatives (among_from node.alternatives b held)))

  pub stocked : (lists : Lists) → AreAllLists f lists → IsStocked f lists
  stocked lists all = record {
    nodes = λ n node there. (let (cs, s) = spans_of n node there in (cs, among_from (lists n) cs (((all.nodes n node there).exact cs).1 (s, all_allowed_in cs))));
    causes = λ n node b there held.
        (let split = split_of n node there b held in (
          split.tree,
          among_from _ split.tree (((all.causes n node b there held).exact split.tree).1
              (subst (λ x. Derives f.flat (edges_of f) x b.start node.key.end split.tree) (sym (part_is f is node (alternatives_of n node there))) split.cause, all_allowed split.tree)),
        ));
  }
