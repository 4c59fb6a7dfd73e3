-- The nodes that stand in trees, as lists.
use Rattle.std.proofs.Common.{◌≡◌, ℕ, suc, ◌<◌, List, [], ◌∷◌, ◌++◌, ◌⊎◌, inl, inr, refl, sym, subst, arith}
use Rattle.finite_sets.proofs.Members.{among_left, among_right, among_either, Among}
use Rattle.grammar_model.specs.Trees.{Tree, Children, Leaf, Nulled, Node, NoChild, Child, child_count, from_of}
use Rattle.recognizer_model.specs.declared.NodeKey.{NodeKey}
use Rattle.recognizer_model.specs.Nodes.{Has, All, Fewer, Inside}

abbrev mutual
  pub nodes_in : Tree → List NodeKey
  nodes_in (Leaf symbol from to) = []
  nodes_in (Nulled symbol at) = []
  nodes_in (Node r cs p q) = prefixes_in r p q cs

  pub prefixes_in : (rule from to : ℕ) → Children → List NodeKey
  prefixes_in r p q NoChild = []
  prefixes_in r p q (Child prefix last) = record { rule = r; dot = suc (child_count prefix); origin = p; end = q } ∷ (prefixes_in r p (from_of last) prefix ++ nodes_in last)

pub in_tree : {t : Tree} {r p q : ℕ} {cs : Children} → Has t r p q cs → (k : NodeKey) → Among k (prefixes_in r p q cs) → Among k (nodes_in t)
in_tree All k m = m
in_tree (Fewer {last = last} {r = r} {p = p} {prefix = prefix} h) k m = in_tree h k (inr (among_left k (prefixes_in r p (from_of last) prefix) (nodes_in last) m))
in_tree (Inside {r = r} {p = p} {r' = r'} {p' = p'} {q' = q'} {prefix = prefix} {cs = cs} h) k m = in_tree h k (inr (among_right k (prefixes_in r p p' prefix) (prefixes_in r' p' q' cs) m))

pub record Stands (t : Tree) (k : NodeKey) : Type 0 where
  pub children : Children
  pub has : Has t k.rule k.origin k.end children
  pub dot_is : k.dot ≡ child_count children
  pub some : 0 < k.dot

mutual
  from_prefix : (t : Tree) (r p q : ℕ) (cs : Children) → Has t r p q cs → (k : NodeKey) → Among k (prefixes_in r p q cs) → Stands t k
  from_prefix t r p q NoChild h k m = absurd m
  from_prefix t r p q (Child prefix last) h k (inl e) = subst (Stands t) e (record { children = Child prefix last; has = h; dot_is = refl; some = omega arith })
  from_prefix t r p q (Child prefix last) h k (inr m) =
      go (λ n. from_prefix t r p (from_of last) prefix (Fewer h) k n) (λ n. from_last t r p q prefix last h k n) (among_either k (prefixes_in r p (from_of last) prefix) (nodes_in last) m)
    where
      go : (Among k (prefixes_in r p (from_of last) prefix) → Stands t k) → (Among k (nodes_in last) → Stands t k) → Among k (prefixes_in r p (from_of last) prefix) ⊎ Among k (nodes_in last) → Stands t k
      go a b (inl n) = a n
      go a b (inr n) = b n

  from_last : (t : Tree) (r p q : ℕ) (prefix : Children) (last : Tree) → Has t r p q (Child prefix last) → (k : NodeKey) → Among k (nodes_in last) → Stands t k
  from_last t r p q prefix (Leaf s a b) h k m = absurd m
  from_last t r p q prefix (Nulled s a) h k m = absurd m
  from_last t r p q prefix (Node r' cs a b) h k m = from_prefix t r' a b cs (Inside h) k m

pub from_tree : (t : Tree) (k : NodeKey) → Among k (nodes_in t) → Stands t k
from_tree (Leaf s a b) k m = absurd m
from_tree (Nulled s a) k m = absurd m
from_tree (Node r cs p q) k m = from_prefix (Node r cs p q) r p q cs All k m

-- the first children that are some are among their own
pub first_in : (r p q : ℕ) (cs : Children) (k : NodeKey) → k.rule ≡ r → k.origin ≡ p → k.end ≡ q → k.dot ≡ child_count cs → 0 < k.dot → Among k (prefixes_in r p q cs)
first_in r p q NoChild k a b c d lt = absurd (omega arith)
first_in r p q (Child prefix last) k a b c d lt = inl (λ i. record { rule = sym a i; dot = sym d i; origin = sym b i; end = sym c i })
