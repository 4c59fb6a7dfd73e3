-- Some of the derivations of a forest.
use Rattle.std.specs.Prelude.{◌≡◌, ℕ, ◌+◌, ◌<◌, ◌↔◌, List, IsTrue, length, map, take, drop}
use Rattle.grammar_model.specs.Trees.{Tree}
use Rattle.grammar_model.specs.Steps.{steps_of}
use Rattle.grammar_core.specs.Steps.{step_of}
use Rattle.forest_model.specs.Forest.{Forest}
use Rattle.forest_model.specs.Listing.{IsListing}
use Rattle.scanning_calls.specs.declared.kept.Kept.{Kept}

-- those after the first `skip`, at most so many, each by its steps; and whether there are more
pub record AreSomeOf (f : Forest) (skip most : ℕ) (k : Kept) : Type 0 where
  pub trees : List Tree
  pub listing : IsListing f trees
  pub kept : map (λ steps. map step_of steps.items) k.derivations.items ≡ map steps_of (take most (drop skip trees))
  pub more : IsTrue k.more ↔ (skip + most < length trees)
