-- What is so of a forest's nodes by their keys is so of another forest of the same reading with those keys.
use Rattle.std.proofs.Common.{ℕ, List, Option, Some, None}
use Rattle.recognizer_model.specs.declared.NodeKey.{NodeKey}
use Rattle.forest_model.specs.Forest.{Cause, AnEdge, Nothing, Wholes, Alternative, ForestNode, Forest, IsNode, IsSplit, IsWholeOver, IsCause, IsPredecessor, AreAlternatives}
use Rattle.forest_laws.specs.Laws.{with_nodes}

module _ (f : Forest) (nodes nodes' : List ForestNode) (root root' : Option ℕ) where
  abbrev old : Forest
  old = with_nodes f nodes root

  abbrev new : Forest
  new = with_nodes f nodes' root'

  split_to : (rule dot origin symbol m q : ℕ) → IsSplit (with_nodes f nodes root) rule dot origin symbol m q → IsSplit (with_nodes f nodes' root') rule dot origin symbol m q
  split_to rule dot origin symbol m q s = record { children = s.children; predecessor = s.predecessor; tree = s.tree; cause = s.cause }

  split_from : (rule dot origin symbol m q : ℕ) → IsSplit (with_nodes f nodes' root') rule dot origin symbol m q → IsSplit (with_nodes f nodes root) rule dot origin symbol m q
  split_from rule dot origin symbol m q s = record { children = s.children; predecessor = s.predecessor; tree = s.tree; cause = s.cause }

  whole_to : (symbol p q r : ℕ) → IsWholeOver old symbol p q r → IsWholeOver new symbol p q r
  whole_to symbol p q r s = record { is_rule = s.is_rule; left = s.left; children = s.children; spans = s.spans }

  whole_from : (symbol p q r : ℕ) → IsWholeOver new symbol p q r → IsWholeOver old symbol p q r
  whole_from symbol p q r s = record { is_rule = s.is_rule; left = s.left; children = s.children; spans = s.spans }

  module _ (node_to : (n : ℕ) (k : NodeKey) → IsNode old n k → IsNode new n k) where
    last_to : (symbol m q : ℕ) (l : Cause) → IsCause old symbol m q l → IsCause new symbol m q l
    last_to symbol m q AnEdge h = h
    last_to symbol m q Nothing h = h
    last_to symbol m q (Wholes numbers) h = record {
      spans = h.spans;
      some = h.some;
      rules = h.rules;
      sorted = h.sorted;
      exact = λ r. (λ c. (let (o, a) = (h.exact r).0 c in (whole_to symbol m q r o, a)), λ (o, a). (h.exact r).1 (whole_from symbol m q r o, a));
      all = h.all;
      each = λ i n r a b. node_to n _ (h.each i n r a b);
    }

    prefix_to : (rule dot origin m : ℕ) (prefix : Option ℕ) → IsPredecessor old rule dot origin m prefix → IsPredecessor new rule dot origin m prefix
    prefix_to rule dot origin m None h = h
    prefix_to rule dot origin m (Some n) h = (h.0, node_to n _ h.1)

    pub alternatives_to : (key : NodeKey) (alternatives : List Alternative) → AreAlternatives old key alternatives → AreAlternatives new key alternatives
    alternatives_to key alternatives a = record {
      dot = a.dot;
      dot_is = a.dot_is;
      symbol = a.symbol;
      part = a.part;
      sorted = a.sorted;
      exact = λ m. (λ c. split_to key.rule a.dot key.origin a.symbol m key.end ((a.exact m).0 c), λ s. (a.exact m).1 (split_from key.rule a.dot key.origin a.symbol m key.end s));
      each = λ b c. (let h = a.each b c in record { predecessor = prefix_to key.rule a.dot key.origin b.start b.predecessor h.predecessor; cause = last_to a.symbol b.start key.end b.cause h.cause });
    }
