-- An iterator over the derivations of a forest, as its callers see it.
use Rattle.std.specs.Prelude.{◌≡◌, ◌≢◌, Contains, ℕ, ◌+◌, ◌≤◌, Bool, true, false, List, [], ◌∷◌, ◌++◌, Option, Some, None}
use Rattle.grammar_model.specs.Trees.{Tree}
use Rattle.grammar_model.specs.Steps.{Step, steps_of}
use Rattle.recognizer_model.specs.Links.{choices}
use Rattle.forest_model.specs.Forest.{Forest}
use Rattle.forest_model.specs.Listing.{IsListing, AreFirst}

-- whether it stands after the last derivation, and the steps of the one that it stands at, if it stands at one
pub record Iteration : Type 0 where
  pub forest : Forest
  pub ended : Bool
  pub current : Option (List Step)

-- the last of them has these steps
pub record EndsAt (given : List Tree) (steps : List Step) : Type 0 where
  pub front : List Tree
  pub last : Tree
  pub is : given ≡ front ++ last ∷ []
  pub steps_are : steps_of last ≡ steps

-- these lie before the place where the iterator stands: all of them, or none, or those up to and with the one that it stands at
abbrev pub AreBefore : Forest → (ended : Bool) → (current : Option (List Step)) → (given : List Tree) → Type 0
AreBefore f true current given = IsListing f given
AreBefore f false None given = given ≡ []
AreBefore f false (Some steps) given = EndsAt given steps

-- these are the derivations that count as given: those of the list before the place where the iterator stands
pub record AreGiven (it : Iteration) (given : List Tree) : Type 0 where
  pub first : AreFirst it.forest given
  pub are_before : AreBefore it.forest it.ended it.current given

-- the iterator after the last derivation
abbrev pub between : Iteration → Iteration
between it = record { forest = it.forest; ended = true; current = None }

-- the iterator at the derivation that has these steps
abbrev pub at_steps : Forest → List Step → Iteration
at_steps f steps = record { forest = f; ended = false; current = Some steps }

-- no derivation of the forest has these steps
abbrev pub HasNone : Forest → List Step → Type 0
HasNone f steps = (trees : List Tree) → IsListing f trees → (t : Tree) → Contains trees t → steps_of t ≢ steps

abbrev pub begun : Forest → Iteration
begun f = record { forest = f; ended = false; current = None }

-- after those given before, one more is given, at which the iterator then stands; or those were all
abbrev pub IsAnswer : (new : Iteration) → (given : List Tree) → Bool → Type 0
IsAnswer new given true = (tree : Tree) × AreGiven new (given ++ tree ∷ []) × (new.current ≡ Some (steps_of tree))
IsAnswer new given false = IsListing new.forest given

-- the steps of a call: at most the choices of the derivation that it gives, and none where it gives none
abbrev pub AreFew : (new : Iteration) → (given : List Tree) → Bool → (before after : ℕ) → Type 0
AreFew new given true before after = (tree : Tree) → AreGiven new (given ++ tree ∷ []) → after ≤ before + choices tree
AreFew new given false before after = after ≡ before
