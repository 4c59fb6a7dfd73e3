-- Laws of forests: what the nodes stand for is there, is one, and is all that their keys say, in the declared order.
use Rattle.std.specs.Prelude.{◌≡◌, ℕ, ◌<◌, ◌↔◌, List, length, Option, Some, slice_get, Contains}
use Rattle.std.specs.List.Sorted.{IsStrictlySortedBy}
use Rattle.grammar_model.specs.Trees.{Tree, Children}
use Rattle.grammar_model.specs.Order.{children_cmp, tree_cmp}
use Rattle.recognizer_model.specs.declared.NodeKey.{NodeKey}
use Rattle.recognizer_model.specs.FlatForm.{flat_order}
use Rattle.recognizer_model.specs.FlatDerives.{Derives, Spans}
use Rattle.recognizer_model.specs.Chosen.{AreAllowed, AreAllowedIn}
use Rattle.forest_model.specs.Forest.{Alternative, ForestNode, Forest, edges_of, allowed_of, ranks_high, IsDerived, IsForest}
use Rattle.forest_model.specs.Listing.{IsListing}
use Rattle.forest_laws.specs.Lists.{Lists, AreLists, cause_symbol, causes_by, trees_by}

-- all child lists of the key that are of allowed rules, in order
pub record AreAllSpans (f : Forest) (key : NodeKey) (lists : List Children) : Type 0 where
  pub sorted : IsStrictlySortedBy (children_cmp (flat_order f.written f.ranking f.flat) (ranks_high f key.rule)) lists
  pub exact : (children : Children) → Contains lists children ↔ (Spans f.flat (edges_of f) key.rule key.dot key.origin key.end children × AreAllowedIn (allowed_of f) children)

-- all trees of the symbol over the span that are of allowed rules, in order
pub record AreAllTrees (f : Forest) (symbol start end : ℕ) (trees : List Tree) : Type 0 where
  pub sorted : IsStrictlySortedBy (tree_cmp (flat_order f.written f.ranking f.flat)) trees
  pub exact : (tree : Tree) → Contains trees tree ↔ (Derives f.flat (edges_of f) symbol start end tree × AreAllowed (allowed_of f) tree)

-- lists that are what the nodes stand for, and all
pub record AreAllLists (f : Forest) (lists : Lists) : Type 0 where
  pub equal : AreLists f lists
  pub nodes : (n : ℕ) (node : ForestNode) → slice_get f.nodes n ≡ Some node → AreAllSpans f node.key (lists n)
  pub causes : (n : ℕ) (node : ForestNode) (a : Alternative) → slice_get f.nodes n ≡ Some node → Contains node.alternatives a →
      AreAllTrees f (cause_symbol f node.key) a.start node.key.end (causes_by f lists (cause_symbol f node.key) a.start node.key.end a.cause)
  pub listing : IsListing f (trees_by f lists)

-- each forest has them
abbrev pub ForestsHaveLists : Type 0
ForestsHaveLists = (f : Forest) → IsForest f → (lists : Lists) × AreAllLists f lists

-- whatever its nodes may stand for, it is the same
abbrev pub ListsAreOne : Type 0
ListsAreOne = (f : Forest) → IsForest f → (lists others : Lists) → AreLists f lists → AreLists f others → (n : ℕ) → n < length f.nodes → lists n ≡ others n

-- a forest of the same reading
abbrev pub with_nodes : Forest → List ForestNode → Option ℕ → Forest
with_nodes f nodes root = record { written = f.written; flat = f.flat; start = f.start; edges = f.edges; place = f.place; ranking = f.ranking; nodes = nodes; root = root }

-- each reading with a derivation has a forest
abbrev pub ForestsExist : Type 0
ForestsExist = (f : Forest) → IsDerived f → (nodes : List ForestNode) × (root : Option ℕ) × IsForest (with_nodes f nodes root)
