-- The law of walks: by what a forest's nodes stand for, the goals of the root stand for the steps of the flat derivations.
use Rattle.std.specs.Prelude.{◌≡◌, map}
use Rattle.grammar_model.specs.Steps.{steps_of}
use Rattle.forest_model.specs.Forest.{Forest, IsForest}
use Rattle.forest_laws.specs.Lists.{Lists, roots_by}
use Rattle.forest_laws.specs.Laws.{AreAllLists}
use Rattle.forest_laws.specs.Goals.{AreGoals, root_goals, steps_from, GoalsAreChosen, WalksGoOn}

pub record IsWalked (f : Forest) (lists : Lists) : Type 0 where
  pub choices : GoalsAreChosen f lists
  pub walks : WalksGoOn f lists
  pub are_goals : AreGoals f (root_goals f f.root)
  pub root : steps_from f lists (root_goals f f.root) ≡ map steps_of (roots_by f lists f.root)

abbrev pub ForestsAreWalked : Type 0
ForestsAreWalked = (f : Forest) (lists : Lists) → IsForest f → AreAllLists f lists → IsWalked f lists
