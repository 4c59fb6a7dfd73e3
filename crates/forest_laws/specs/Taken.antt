-- What a walk has given so far: its first lists of steps, written, are the steps of the first derivations of the list.
use Rattle.std.specs.Prelude.{◌≡◌, ℕ, suc, ◌≤◌, List, [], ◌++◌, length, map, Some, slice_get}
use Rattle.grammar_model.specs.Trees.{Tree}
use Rattle.grammar_model.specs.Steps.{Step, steps_of}
use Rattle.recognizer_model.specs.Links.{choices}
use Rattle.forest_model.specs.Forest.{Forest, IsForest}
use Rattle.forest_model.specs.Listing.{IsListing, AreFirst}
use Rattle.forest_laws.specs.Lists.{Lists, roots_by}
use Rattle.forest_laws.specs.Laws.{AreAllLists}
use Rattle.forest_laws.specs.Written.{steps_written}

-- derivations that were given, with the flat steps that stand for them, and those that are left
pub record AreTaken (f : Forest) (taken rest : List (List Step)) : Type 0 where
  pub given : List Tree
  pub first : AreFirst f given
  pub steps : map (steps_written f.written f.flat []) taken ≡ map steps_of given
  pub few : (k : ℕ) (flat : List Step) (tree : Tree) → slice_get taken k ≡ Some flat → slice_get given k ≡ Some tree → length flat ≤ suc (choices tree)
  pub all : rest ≡ [] → IsListing f given

-- so is each prefix of what the root stands for
abbrev pub PrefixesAreTaken : Type 0
PrefixesAreTaken = (f : Forest) (lists : Lists) (taken rest : List (List Step)) → IsForest f → AreAllLists f lists →
    map steps_of (roots_by f lists f.root) ≡ taken ++ rest → AreTaken f taken rest
