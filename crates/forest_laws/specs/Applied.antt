-- The laws at a reading with two derivations: lists of numbers with commas between them, where a last comma may stand.
use Rattle.std.specs.Prelude.{ℕ, List, [], ◌∷◌, Option, None, Contains}
use Rattle.grammar_model.specs.declared.Edge.{Edge}
use Rattle.grammar_model.specs.Trees.{Tree, Leaf, Node, NoChild, Child}
use Rattle.grammar_model.specs.declared.Ranking.TheVariants.{None as NoRanks}
use Rattle.grammar_model.specs.Order.{rank_order, Before}
use Rattle.flat_model.specs.Lists.{lists, flat_lists}
use Rattle.forest_model.specs.Forest.{ForestNode, Forest, IsDerived, IsForest}
use Rattle.forest_laws.specs.Lists.{Lists, trees_by}
use Rattle.forest_laws.specs.Laws.{AreAllLists, with_nodes}

-- N, a comma and N
abbrev pub tokens : List Edge
tokens = record { symbol = 3; from = 0; to = 1 } ∷ record { symbol = 4; from = 1; to = 2 } ∷ record { symbol = 3; from = 2; to = 3 } ∷ []

-- S ::= L*; L ::= E+ separator => comma; E ::= N
abbrev pub reading : Forest
reading = record { written = lists; flat = flat_lists; start = 0; edges = tokens; place = 3; ranking = NoRanks; nodes = []; root = None }

abbrev pub number_at : ℕ → ℕ → Tree
number_at p q = Node 2 (Child NoChild (Leaf 3 p q)) p q

abbrev pub comma : Tree
comma = Leaf 4 1 2

-- a list that ends with the comma, and one of the last number
abbrev pub two_lists : Tree
two_lists = Node 0 (Child (Child NoChild (Node 1 (Child (Child NoChild (number_at 0 1)) comma) 0 2)) (Node 1 (Child NoChild (number_at 2 3)) 2 3)) 0 3

abbrev pub one_list : Tree
one_list = Node 0 (Child NoChild (Node 1 (Child (Child (Child NoChild (number_at 0 1)) comma) (number_at 2 3)) 0 3)) 0 3

-- the reading has a forest, whose root stands for both, in this order
pub record ForestsApply : Type 0 where
  pub derived : IsDerived reading
  pub nodes : List ForestNode
  pub root : Option ℕ
  pub forest : IsForest (with_nodes reading nodes root)
  pub lists : Lists
  pub all : AreAllLists (with_nodes reading nodes root) lists
  pub has_two : Contains (trees_by (with_nodes reading nodes root) lists) two_lists
  pub has_one : Contains (trees_by (with_nodes reading nodes root) lists) one_list
  pub before : Before (rank_order Rattle.flat_model.specs.Lists.lists NoRanks) two_lists one_list
