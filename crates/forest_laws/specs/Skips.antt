-- A walk that takes a later option of a goal at once: what the earlier options stand for is left out, and nothing else.
use Rattle.std.specs.Prelude.{◌≡◌, List, [], ◌∷◌, ◌++◌, map}
use Rattle.forest_model.specs.Forest.{Forest}
use Rattle.forest_laws.specs.Lists.{Lists}
use Rattle.forest_laws.specs.Goals.{Goal, Chose, Done, IsGoal, options, later_steps, stands, written, GoalsAreChosen}

abbrev pub WalksSkip : Type 0
WalksSkip = (f : Forest) (lists : Lists) → GoalsAreChosen f lists → (done : List Done) (goal : Goal) (left option : List Goal) (earlier later : List (List Goal)) → IsGoal f goal →
    options f goal ≡ earlier ++ option ∷ later →
    stands f lists done (goal ∷ left) ≡ map (λ rest. written done ++ rest) (later_steps f lists left earlier) ++ stands f lists (done ++ Chose later left ∷ []) (option ++ left)
