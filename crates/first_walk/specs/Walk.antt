-- A walk through a forest from its last goal to the first, by first options: it writes the steps of the first derivation, the last one
-- first. It tells whether there was a choice.
use Rattle.std.specs.Prelude.{◌≡◌, ◌≤◌, ◌↔◌, suc, Bool, true, false, ◌&&◌, IsTrue, List, [], ◌∷◌, ◌++◌, length}
use Rattle.grammar_model.specs.Trees.{Tree}
use Rattle.grammar_model.specs.Steps.{Step, steps_of}
use Rattle.recognizer_model.specs.Links.{choices}
use Rattle.forest_model.specs.Forest.{Forest, IsForest}
use Rattle.forest_model.specs.Listing.{IsListing}
use Rattle.forest_laws.specs.Goals.{Goal, Write, options, root_goals}
use Rattle.forest_laws.specs.Written.{steps_written}

abbrev pub is_none : {A : Type 0} → List A → Bool
is_none [] = true
is_none (x ∷ xs) = false

-- the steps that goals stand for first, and whether there was no choice
pub data IsWalk (f : Forest) : List Goal → List Step → (alone : Bool) → Type 0 where
  Done : IsWalk f [] [] true
  Wrote : (goals : List Goal) (steps : List Step) (alone : Bool) (step : Step) → IsWalk f goals steps alone → IsWalk f (goals ++ Write step ∷ []) (steps ++ step ∷ []) alone
  Chose : (goals : List Goal) (steps : List Step) (alone : Bool) (goal : Goal) (option : List Goal) (later : List (List Goal)) → options f goal ≡ option ∷ later →
      IsWalk f (goals ++ option) steps alone → IsWalk f (goals ++ goal ∷ []) steps (alone && is_none later)

-- flat steps that are written as those of the first derivation of the reading, and whether it is the only one
pub record IsFirst (f : Forest) (flat : List Step) (alone : Bool) : Type 0 where
  pub tree : Tree
  pub others : List Tree
  pub listing : IsListing f (tree ∷ others)
  pub steps : steps_written f.written f.flat [] flat ≡ steps_of tree
  pub few : length flat ≤ suc (choices tree)
  pub only : IsTrue alone ↔ (others ≡ [])

-- steps of the first derivation of the reading, and whether it is the only one
pub record IsFirstDerivation (f : Forest) (steps : List Step) (alone : Bool) : Type 0 where
  pub tree : Tree
  pub others : List Tree
  pub listing : IsListing f (tree ∷ others)
  pub is : steps ≡ steps_of tree
  pub only : IsTrue alone ↔ (others ≡ [])

-- so does a walk from the goals of the whole
abbrev pub WalksAreFirst : Type 0
WalksAreFirst = (f : Forest) (steps : List Step) (alone : Bool) → IsForest f → IsWalk f (root_goals f f.root) steps alone → IsFirst f steps alone
