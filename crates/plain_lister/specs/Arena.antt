-- Trees that share their parts: a cell is a tree, or the first children of one, and names earlier cells by their places.
use Rattle.std.specs.Prelude.{ℕ, suc, List, [], ◌∷◌, ◌++◌, slice_index_or}
use Rattle.grammar_model.specs.Trees.{Tree, Children, Leaf, Nulled, Node, NoChild, Child}
use Rattle.plain_lister.specs.declared.Cell.{Cell}
use Rattle.plain_lister.specs.declared.Cell.TheVariants as cell

-- what a cell stands for: a tree, or children
pub record Meant : Type 0 where
  pub tree : Tree
  pub prefix : Children

abbrev pub nothing : Meant
nothing = record { tree = Nulled 0 0; prefix = NoChild }

abbrev pub meant_at : List Meant → ℕ → Meant
meant_at earlier k = slice_index_or earlier k nothing

abbrev pub meant : List Meant → Cell → Meant
meant earlier (cell.Leaf symbol from) = record { tree = Leaf symbol from (suc from); prefix = NoChild }
meant earlier (cell.Node rule prefix from to) = record { tree = Node rule ((meant_at earlier prefix).prefix) from to; prefix = NoChild }
meant earlier (cell.First last) = record { tree = Nulled 0 0; prefix = Child NoChild ((meant_at earlier last).tree) }
meant earlier (cell.Next prefix last) = record { tree = Nulled 0 0; prefix = Child ((meant_at earlier prefix).prefix) ((meant_at earlier last).tree) }

abbrev pub meanings_from : List Meant → List Cell → List Meant
meanings_from earlier [] = earlier
meanings_from earlier (c ∷ cells) = meanings_from (earlier ++ meant earlier c ∷ []) cells

abbrev pub meanings : List Cell → List Meant
meanings cells = meanings_from [] cells

abbrev pub tree_at : List Cell → ℕ → Tree
tree_at cells k = (meant_at (meanings cells) k).tree

abbrev pub prefix_at : List Cell → ℕ → Children
prefix_at cells k = (meant_at (meanings cells) k).prefix
