-- How many steps the sets of a recognizer take.
use Rattle.std.specs.Prelude.{ℕ, ◌+◌, ◌≤◌}
use Rattle.recognizer_model.specs.Counts.{IsCountOf}
use Rattle.recognizer_model.specs.Links.{PlacedLink, IsPlacedLink}
use Rattle.begun_lists.specs.Tried.{RisesWithin}
use Rattle.earley_sets.specs.Recognizer.{Recognizer, earleme_of, edges_of, top_of, made, IsLeoPair}

-- a link of the set of a place after the first
abbrev pub IsLinkOf : Recognizer → PlacedLink → Type 0
IsLinkOf r = IsPlacedLink r.flat (edges_of r) (top_of r) (earleme_of r)

-- as many steps as tries of different links, and one for each pair that was noted
abbrev pub CountsFrom : Recognizer → (before after : ℕ) → Type 0
CountsFrom r before after = RisesWithin (IsLinkOf r) (before + made r) after

-- at most a step for each link, and one for each Leo pair
abbrev pub TakesAtMost : Recognizer → (before after : ℕ) → Type 0
TakesAtMost r before after = (links pairs : ℕ) → IsCountOf (IsLinkOf r) links → IsCountOf (IsLeoPair r) pairs → after ≤ before + links + pairs
