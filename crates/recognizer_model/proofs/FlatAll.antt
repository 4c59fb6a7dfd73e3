-- A flat grammar's list of all derivations, as what they stand for, is the written grammar's.
use Rattle.std.proofs.Common.{◌≡◌, ℕ, List, map, Option, Some, None, refl, sym, ◌∙◌, subst}
use Rattle.std.specs.Ordering.{ordering_then, nat_cmp, int_cmp, bool_cmp}
use Rattle.finite_sets.proofs.Members.{among_from, contains_from, among_map, among_map_from, Among}
use Rattle.grammar_model.specs.Grammar.{Grammar, Slot, WrittenRule, Plain, Sequence, slot_of, rule_at, has_trailing, is_item, ends_with_separator}
use Rattle.grammar_model.specs.Trees.{Tree}
use Rattle.grammar_model.specs.Derives.{Edges, Derives}
use Rattle.grammar_model.specs.declared.Ranking.{Ranking}
use Rattle.grammar_model.specs.Order.{IsRuleOrder, RuleOrder, rank_by, rank_order, tree_cmp}
use Rattle.grammar_model.specs.All.{IsAll}
use Rattle.recognizer_model.proofs.Forms.{FlatNames, IsFlatOf, KeepsOrder, HasFlatRules, StandsFor, tree_of}
use Rattle.grammar_model.proofs.Compose.{GoForward}
use Rattle.grammar_model.proofs.Lists.{sorted_map}
use Rattle.recognizer_model.proofs.FlatSound.{Alike, tree_sound}
use Rattle.recognizer_model.proofs.FlatOrder.{tree_same}
use Rattle.recognizer_model.proofs.FlatWhole.{tree_whole}

same_trailing : (rule : WrittenRule) (m k : ℕ) → Alike rule m k → has_trailing rule m ≡ has_trailing rule k
same_trailing (Plain r) m k a = refl
same_trailing (Sequence r) m k a = go r.separator a.1
  where
    go : (separator : Option ℕ) → is_item separator m ≡ is_item separator k → ends_with_separator separator m ≡ ends_with_separator separator k
    go None e = refl
    go (Some c) e = e

module _ (f g : Grammar) (n : FlatNames) (flat_edge edge : Edges) (laws : IsFlatOf f g n flat_edge edge) (has : HasFlatRules f g n flat_edge edge)
    (flat_forward : GoForward flat_edge) (forward : GoForward edge) (flat : RuleOrder) (flat_laws : IsRuleOrder flat) (ranking : Ranking) (keeps : KeepsOrder f g n flat (rank_order g ranking)) where
  pub trailing : (i m m' j k k' : ℕ) → Alike (rule_at g i) m m' → Alike (rule_at g j) k k' → (rank_order g ranking).cmp i m j k ≡ (rank_order g ranking).cmp i m' j k'
  trailing i m m' j k k' a b =
      λ z. ordering_then (int_cmp (rank_by ranking (rule_at g j)) (rank_by ranking (rule_at g i)))
      (ordering_then (nat_cmp i j) (bool_cmp (same_trailing (rule_at g i) m m' a z) (same_trailing (rule_at g j) k k' b z)))

  pub flat_all : (x p q : ℕ) (slot : Slot) (trees : List Tree) → StandsFor (n.symbol x) slot → IsAll f flat_edge flat (slot_of x) p q trees → IsAll g edge (rank_order g ranking) slot p q (map (tree_of n) trees)
  flat_all x p q slot trees s all = record {
    sorted = sorted_map (tree_cmp flat) (tree_cmp (rank_order g ranking)) (tree_of n) trees all.sorted
        (λ t u a b less. sym (tree_same f g n flat_edge edge laws flat_forward flat (rank_order g ranking) flat_laws keeps trailing t u x p q slot s (derived t a) (derived u b)) ∙ less);
    each = λ t. (
      λ c. (let m = among_map_from (tree_of n) t trees (among_from _ t c) in
          subst (Derives g edge slot p q) m.2 (tree_sound f g n flat_edge edge laws m.0 x p q slot s (derived m.0 m.1))),
      λ d. (let w = tree_whole f g n flat_edge edge laws has forward t x p q slot s d in
          contains_from _ t (subst (λ z. Among z (map (tree_of n) trees)) w.2 (among_map (tree_of n) w.0 trees (among_from trees w.0 ((all.each w.0).1 w.1))))),
    );
  }
    where
      derived : (t : Tree) → Among t trees → Derives f flat_edge (slot_of x) p q t
      derived t m = (all.each t).0 (contains_from trees t m)
