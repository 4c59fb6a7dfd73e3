-- Derivations over a flat grammar.
use Rattle.grammar_model.specs.Derives.{Edges}
use Rattle.std.specs.Prelude.{◌≡◌, ℕ, suc, ◌<◌, length, Some}
use Rattle.grammar_model.specs.Trees.{Tree, Leaf, Nulled, Node, Children, NoChild, Child}
use Rattle.recognizer_model.specs.Flat.{FlatGrammar, IsRule, lhs_of, rhs_of, part_of, IsNullable}

mutual
  -- a tree derives a symbol from one place to another
  pub data Derives (g : FlatGrammar) (E : Edges) : (symbol from to : ℕ) → Tree → Type 0 where
    Token : {x p q : ℕ} → E x p q → Derives g E x p q (Leaf x p q)
    Null : {x p : ℕ} → IsNullable g x → Derives g E x p p (Nulled x p)
    Rule : {x p q r : ℕ} {cs : Children} → IsRule g r → lhs_of g r ≡ x → p < q →
        Spans g E r (length (rhs_of g r)) p q cs → Derives g E x p q (Node r cs p q)

  -- children derive the first `dot` parts of a rule, one after another
  pub data Spans (g : FlatGrammar) (E : Edges) : (rule dot from to : ℕ) → Children → Type 0 where
    Nothing : {r p : ℕ} → Spans g E r 0 p p NoChild
    More : {r d p m q x : ℕ} {cs : Children} {t : Tree} → Spans g E r d p m cs → part_of g r d ≡ Some x →
        Derives g E x m q t → Spans g E r (suc d) p q (Child cs t)
