-- The lines of the derivations of a forest.
use Rattle.std.specs.Prelude.{◌≡◌, ℕ, ◌<◌, ◌++◌, Bool, true, false, List, [], ◌∷◌, length, map, take, slice_index_or, codes, decimal}
use Rattle.std.specs.List.{concat}
use Rattle.grammar_model.specs.Grammar.{Grammar}
use Rattle.grammar_model.specs.Trees.{Tree}
use Rattle.forest_model.specs.Forest.{Forest}
use Rattle.forest_model.specs.Listing.{IsListing}
use Rattle.tree_iter.specs.Iteration.{Iteration, AreGiven}
use Rattle.script_model.specs.Replies.{as_line, tree_line}

-- the forest is of this grammar, and its start is a symbol of it
pub record IsOver (g : Grammar) (f : Forest) : Type 0 where
  pub written : f.written ≡ g
  pub known : slice_index_or g.starts f.start 0 < length g.names

-- one more is given, and this is its line; or those given are all
abbrev pub IsTreeLine : Grammar → (new : Iteration) → (given : List Tree) → (line : List ℕ) → Bool → Type 0
IsTreeLine g new given line true = (tree : Tree) × AreGiven new (given ++ tree ∷ []) × (line ≡ tree_line g tree)
IsTreeLine g new given line false = IsListing new.forest given

-- the number of the first derivations, so many at most, and their lines have P
pub record TellsTrees (g : Grammar) (f : Forest) (count : ℕ) (P : ℕ → List ℕ → Type 0) : Type 0 where
  pub trees : List Tree
  pub listing : IsListing f trees
  pub has : P (length (take count trees)) (concat (map (tree_line g) (take count trees)))

-- their lines, and the line that says how many there are, have P
pub record TellsAll (g : Grammar) (f : Forest) (count : ℕ) (P : List ℕ → Type 0) : Type 0 where
  pub trees : List Tree
  pub listing : IsListing f trees
  pub has : P (concat (map (tree_line g) (take count trees) ++ as_line (codes "trees " ++ decimal (length (take count trees))) ∷ []))
