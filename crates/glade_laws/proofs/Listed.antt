-- A group is the nodes of whole rules, and their trees stand for all trees of its slot over its span.
use Rattle.std.proofs.Common.{◌≡◌, ℕ, ◌<◌, List, length, map, flat_map, refl, sym, subst}
use Rattle.grammar_model.specs.Grammar.{Slot}
use Rattle.grammar_model.specs.Derives.{Held}
use Rattle.grammar_model.specs.Order.{rank_order}
use Rattle.grammar_model.specs.All.{IsAll}
use Rattle.grammar_model.specs.declared.Ranking.TheVariants.{Rule as RuleRanks}
use Rattle.recognizer_model.specs.Flat.{FlatGrammar}
use Rattle.recognizer_model.specs.declared.flat.FlatSymbol.{FlatSymbol}
use Rattle.recognizer_model.specs.FlatForm.{IsFlatForm, StandsFor, symbol_at, tree_of}
use Rattle.recognizer_model.proofs.FlatFormLaw.{flat_form}
use Rattle.recognizer_model.proofs.FlatListed.{written_all}
use Rattle.recognizer_model.proofs.Sources.{rule_there}
use Rattle.forest_model.specs.Forest.{Wholes, Forest, IsForest, IsCause, AreWholes}
use Rattle.forest_laws.specs.Lists.{Lists, cause_symbol, whole_by, causes_by}
use Rattle.forest_laws.specs.Laws.{AreAllLists, AreAllTrees}
use Rattle.forest_laws.proofs.Reading.{viewed, back}
use Rattle.glade_laws.specs.Groups.{IsGroup}
use Rattle.glade_laws.proofs.Falling.{part_is}
use Rattle.glade_laws.proofs.Stocked.{all_allowed, alternatives_of, held_forward}

module _ (f : Forest) (is : IsForest f) (rule : f.ranking ≡ RuleRanks) where
  abbrev g : FlatGrammar
  g = f.flat

  pub form : IsFlatForm f.flat f.written (Held f.edges) f.ranking
  form = flat_form f.flat f.written is.derived.flat is.derived.flat_of is.derived.checked (Held f.edges) (held_forward f is rule) f.ranking

  module _ (slot : Slot) (p q : ℕ) (nodes : List ℕ) (group : IsGroup f slot p q nodes) where
    abbrev pub symbol_of : ℕ
    symbol_of = cause_symbol f group.node.key

    pub in_symbols : symbol_of < length f.flat.symbols
    in_symbols =
        let a = alternatives_of f is rule group.number group.node group.there in
        subst (λ x. x < length f.flat.symbols) (sym (part_is f is group.node a))
        (is.derived.flat.in_range.parts group.node.key.rule a.dot a.symbol (rule_there f.flat.rules group.node.key.rule a.dot a.symbol a.part) a.part)

    pub stands : StandsFor f.written (symbol_at f.flat symbol_of) slot
    stands = subst (λ (s : FlatSymbol). StandsFor f.written s slot) (sym group.symbol) refl

    pub wholes : AreWholes f symbol_of p q nodes
    wholes =
        let a = alternatives_of f is rule group.number group.node group.there in
        let here : IsCause f symbol_of group.alternative.start group.node.key.end (Wholes nodes) =
        subst (λ x. IsCause f x group.alternative.start group.node.key.end (Wholes nodes)) (sym (part_is f is group.node a))
        (subst (IsCause f a.symbol group.alternative.start group.node.key.end) group.cause (a.each group.alternative group.has).cause) in
        subst (λ x. AreWholes f symbol_of x q nodes) group.start (subst (λ y. AreWholes f symbol_of group.alternative.start y nodes) group.end here)

    -- the trees of the group
    pub trees_all : (lists : Lists) → AreAllLists f lists → AreAllTrees f symbol_of p q (flat_map (whole_by f lists p q) nodes)
    trees_all lists all =
        let here : AreAllTrees f symbol_of group.alternative.start group.node.key.end (causes_by f lists symbol_of group.alternative.start group.node.key.end (Wholes nodes)) =
        subst (λ c. AreAllTrees f symbol_of group.alternative.start group.node.key.end (causes_by f lists symbol_of group.alternative.start group.node.key.end c)) group.cause
        (all.causes group.number group.node group.alternative group.there group.has) in
        subst (λ x. AreAllTrees f symbol_of x q (flat_map (whole_by f lists x q) nodes)) group.start
        (subst (λ y. AreAllTrees f symbol_of group.alternative.start y (flat_map (whole_by f lists group.alternative.start y) nodes)) group.end here)

    pub written_trees : (lists : Lists) → AreAllLists f lists → IsAll f.written (Held f.edges) (rank_order f.written f.ranking) slot p q (map (tree_of f.written f.flat) (flat_map (whole_by f lists p q) nodes))
    written_trees lists all =
        let trees = trees_all lists all in
        written_all f.flat f.written is.derived.flat f.ranking f.edges (held_forward f is rule) form symbol_of p q slot (flat_map (whole_by f lists p q) nodes) in_symbols stands (record {
          sorted = trees.sorted;
          each = λ t. (
            λ c. viewed f is.derived ((trees.exact t).0 c).0,
            λ d. (trees.exact t).1 (back f is.derived symbol_of p q t d, all_allowed f is rule t),
          );
        })
