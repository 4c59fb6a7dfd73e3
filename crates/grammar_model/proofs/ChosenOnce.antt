-- The list of the chosen derivations is one; and where all rules have one rank, every derivation is chosen.
use Rattle.std.proofs.Common.{◌≡◌, ℕ, ℤ, ◌≤ℤ◌, List, sym, ◌∙◌, subst, arith}
use Rattle.std.proofs.lemmas.Int.{ints}
use Rattle.finite_sets.proofs.Members.{among_from, contains_from}
use Rattle.grammar_model.specs.Grammar.{WrittenRule, Grammar, Slot, rule_at, rank_of, child_slot}
use Rattle.grammar_model.specs.Trees.{Tree, Children, Leaf, Nulled, Node, NoChild, Child, child_count}
use Rattle.grammar_model.specs.Derives.{Edges}
use Rattle.grammar_model.specs.Order.{Ranking, NoRanks, RuleRanks, HighRanks, rank_order, tree_cmp}
use Rattle.grammar_model.specs.Chosen.{AreBest, AreBestPrefix, IsChosen, AreChosen}
use Rattle.grammar_model.proofs.Lists.{one_sorted}
use Rattle.grammar_model.proofs.Sorting.{ranks_order}
use Rattle.grammar_model.proofs.Total.{derivations_ordered}

pub chosen_unique : (g : Grammar) (edge : Edges) (ranking : Ranking) (slot : Slot) (p q : ℕ) (ts us : List Tree) →
    AreChosen g edge ranking slot p q ts → AreChosen g edge ranking slot p q us → ts ≡ us
chosen_unique g edge ranking slot p q ts us a b =
    one_sorted (tree_cmp (rank_order g ranking)) (derivations_ordered g edge (rank_order g ranking) (ranks_order g ranking) slot p q).asymmetric ts us a.sorted b.sorted
    (λ t m. among_from us t ((b.each t).1 ((a.each t).0 (contains_from ts t m))))
    (λ t m. among_from ts t ((a.each t).1 ((b.each t).0 (contains_from us t m))))

module _ (g : Grammar) (edge : Edges) (rank : ℤ) (alike : (i : ℕ) → rank_of (rule_at g i) ≡ rank) where
  no_higher : (i j : ℕ) → rank_of (rule_at g i) ≤ℤ rank_of (rule_at g j)
  no_higher i j =
      let same : rank_of (rule_at g i) ≡ rank_of (rule_at g j) = alike i ∙ sym (alike j) in
      subst (λ k. rank_of (rule_at g i) ≤ℤ k) same (itself (rank_of (rule_at g i)))
    where
      itself : (x : ℤ) → x ≤ℤ x
      itself x = omega (arith, ints)

  mutual
    alike_best : (slot : Slot) (t : Tree) → AreBest g edge slot t
    alike_best slot (Leaf symbol from to) = tt
    alike_best slot (Nulled symbol at) = tt
    alike_best slot (Node rule children from to) = ((λ other cs d. no_higher other rule), alike_prefix (rule_at g rule) children)

    alike_prefix : (rule : WrittenRule) (cs : Children) → AreBestPrefix g edge rule cs
    alike_prefix rule NoChild = tt
    alike_prefix rule (Child prefix last) = (alike_prefix rule prefix, alike_best (child_slot rule (child_count prefix)) last)

  pub alike_chosen : (ranking : Ranking) (slot : Slot) (t : Tree) → IsChosen ranking g edge slot t
  alike_chosen NoRanks slot t = tt
  alike_chosen RuleRanks slot t = tt
  alike_chosen HighRanks slot t = alike_best slot t
