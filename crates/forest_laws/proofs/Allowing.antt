-- Which rules the ranking of a reading allows is decided, and so is which trees are of allowed rules.
use Rattle.std.proofs.Common.{arith, ◌≡◌, ℕ, ℤ, ◌≤ℤ◌, Bool, true, List, [], ◌∷◌, length, ◌⊎◌, inl, inr, refl}
use Rattle.std.specs.Prelude.{◌&&◌}
use Rattle.std.proofs.lemmas.Bool.{and_parts, and_from}
use Rattle.finite_sets.proofs.Members.{Among}
use Rattle.grammar_model.specs.Trees.{Tree, Children, Leaf, Nulled, Node, NoChild, Child}
use Rattle.grammar_model.specs.Derives.{Edges}
use Rattle.grammar_model.specs.declared.Ranking.{Ranking}
use Rattle.grammar_model.specs.declared.Ranking.TheVariants.{None as NoRanks, Rule as RuleRanks, High as HighRanks}
use Rattle.finite_sets.specs.Decided.{IsDecided}
use Rattle.finite_sets.proofs.Deciding.{both, both_then, implied, moved, equal, less, each_below, test_of, test_true, true_test, most_decided}
use Rattle.recognizer_model.specs.Flat.{FlatGrammar, IsRule, lhs_of, rhs_of}
use Rattle.recognizer_model.specs.FlatDerives.{Spans}
use Rattle.recognizer_model.specs.Chosen.{AreAllowed, AreAllowedIn, LeavesSome, flat_rank, IsBestRule, allowed_by}
use Rattle.recognizer_model.proofs.Leaving.{leaves_some}
use Rattle.forest_model.specs.Forest.{Forest, edges_of, allowed_of, IsDerived}
use Rattle.forest_laws.proofs.Reading.{held_forward, spans, span_in, in_spans}

pub some_or_none : {X : Type 0} (xs : List X) → ((x : X) × Among x xs) ⊎ ((x : X) → Among x xs → ⊥)
some_or_none [] = inr (λ x m. m)
some_or_none (x ∷ xs) = inl (x, inl refl)

module _ (f : Forest) (derived : IsDerived f) where
  abbrev g : FlatGrammar
  g = f.flat

  abbrev E : Edges
  E = edges_of f

  pub leaves : LeavesSome f.flat (edges_of f) (allowed_of f)
  leaves = leaves_some f.flat f.written derived.flat f.edges (held_forward f derived) f.ranking

  abbrev pub IsOver : (symbol p q rule : ℕ) → Type 0
  IsOver x p q r = IsRule g r × ((lhs_of g r ≡ x) × ((cs : Children) × Spans g E r (length (rhs_of g r)) p q cs))

  pub over_decided : (x p q r : ℕ) → IsDecided (IsOver x p q r)
  over_decided x p q r = both_then (less r (length g.rules)) (λ rule. both (equal (lhs_of g r) x) (go rule (some_or_none (spans f derived r (length (rhs_of g r)) p q).0)))
    where
      go : IsRule g r → ((cs : Children) × Among cs (spans f derived r (length (rhs_of g r)) p q).0) ⊎ ((cs : Children) → Among cs (spans f derived r (length (rhs_of g r)) p q).0 → ⊥) →
          IsDecided ((cs : Children) × Spans g E r (length (rhs_of g r)) p q cs)
      go rule (inl (cs, i)) = inl (cs, in_spans f derived r (length (rhs_of g r)) p q cs rule (omega arith) i)
      go rule (inr none) = inr (λ (cs, s). none cs (span_in f derived rule s))

  abbrev rank : ℕ → ℤ
  rank r = flat_rank f.written HighRanks f.flat r

  best_decided : (r p q : ℕ) → IsDecided (IsBestRule f.written HighRanks f.flat (edges_of f) r p q)
  best_decided r p q =
      moved (λ h s cs rule same over. h s rule (rule, (same, (cs, over)))) (λ best s lt (rule, (same, (cs, over))). best s cs rule same over)
      (each_below (λ s. IsOver (lhs_of g r) p q s → rank s ≤ℤ rank r) (length g.rules) (λ s lt. implied (over_decided (lhs_of g r) p q s) (most_decided (rank s) (rank r))))

  decided_by : (ranking : Ranking) (r p q : ℕ) → IsDecided (allowed_by f.written HighRanks f.flat (edges_of f) r p q) → IsDecided (allowed_by f.written ranking f.flat (edges_of f) r p q)
  decided_by NoRanks r p q d = inl tt
  decided_by RuleRanks r p q d = inl tt
  decided_by HighRanks r p q d = d

  pub allowed_decided : (r p q : ℕ) → IsDecided (allowed_of f r p q)
  allowed_decided r p q = decided_by f.ranking r p q (best_decided r p q)

  abbrev pub rule_test : (rule p q : ℕ) → Bool
  rule_test r p q = test_of (allowed_decided r p q)

  abbrev mutual
    pub tree_test : Tree → Bool
    tree_test (Leaf x p q) = true
    tree_test (Nulled x p) = true
    tree_test (Node r cs p q) = rule_test r p q && prefix_test cs

    pub prefix_test : Children → Bool
    prefix_test NoChild = true
    prefix_test (Child prefix last) = prefix_test prefix && tree_test last

  mutual
    pub tree_is : (t : Tree) → tree_test t ≡ true → AreAllowed (allowed_of f) t
    tree_is (Leaf x p q) e = tt
    tree_is (Nulled x p) e = tt
    tree_is (Node r cs p q) e = let (a, b) = and_parts (rule_test r p q) (prefix_test cs) e in (true_test (allowed_decided r p q) a, prefix_is cs b)

    pub prefix_is : (cs : Children) → prefix_test cs ≡ true → AreAllowedIn (allowed_of f) cs
    prefix_is NoChild e = tt
    prefix_is (Child prefix last) e = let (a, b) = and_parts (prefix_test prefix) (tree_test last) e in (prefix_is prefix a, tree_is last b)

  mutual
    pub is_tree : (t : Tree) → AreAllowed (allowed_of f) t → tree_test t ≡ true
    is_tree (Leaf x p q) c = refl
    is_tree (Nulled x p) c = refl
    is_tree (Node r cs p q) c = and_from (rule_test r p q) (prefix_test cs) (test_true (allowed_decided r p q) c.0) (is_prefix cs c.1)

    pub is_prefix : (cs : Children) → AreAllowedIn (allowed_of f) cs → prefix_test cs ≡ true
    is_prefix NoChild c = refl
    is_prefix (Child prefix last) c = and_from (prefix_test prefix) (tree_test last) (is_prefix prefix c.0) (is_tree last c.1)
