-- The two derivations of a sum of three operands, by the rules `E ::= E '+' E` and `E ::= N`.
use Rattle.std.specs.Prelude.{ℕ, ◌+◌}
use Rattle.grammar_model.specs.Trees.{Tree, Children, Leaf, Node, NoChild, Child}

-- a number alone, where it stands
abbrev pub operand : ℕ → Tree
operand at = Node 1 (Child NoChild (Leaf 2 at (at + 1))) at (at + 1)

-- two sides, with the sign after the first
abbrev pub sum_of : (left right : Tree) → (from sign to : ℕ) → Tree
sum_of left right from sign to = Node 0 (Child (Child (Child NoChild left) (Leaf 1 sign (sign + 1))) right) from to

abbrev pub left_first : Tree
left_first = sum_of (sum_of (operand 0) (operand 2) 0 1 3) (operand 4) 0 3 5

abbrev pub right_first : Tree
right_first = sum_of (operand 0) (sum_of (operand 2) (operand 4) 2 3 5) 0 1 5
