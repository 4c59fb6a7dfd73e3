-- Writing the lines of derivations of a forest, from the first on or from another place.
use Rattle.std.specs.Prelude.{◌≡◌, ℕ, ◌+◌, ◌<◌, ◌≤◌, Bool, true, false, List, [], ◌∷◌, ◌++◌, ◌⊎◌, Option, Some, IfSome, length, map}
use Rattle.std.specs.List.{concat, sum_by}
use Rattle.std.specs.Io.KnownBytes.{Appends}
use Rattle.outside_model.specs.Causes.{Rose}
use Rattle.outside_model.specs.Told.{AppendsPrefix}
use Rattle.grammar_model.specs.Trees.{Tree}
use Rattle.grammar_model.specs.Steps.{Step, steps_of}
use Rattle.grammar_model.specs.Values.{Value}
use Rattle.grammar_model.specs.declared.Show.{Show}
use Rattle.grammar_model.specs.declared.Show.TheVariants.{Array as ShowArray, Tree as ShowTree}
use Rattle.grammar_core.specs.declared.steps.Span.{Span}
use Rattle.recognizer_model.specs.Links.{choices}
use Rattle.language_model.specs.Building.{Built}
use Rattle.reading_model.specs.Reading.{Piece}
use Rattle.forest_model.specs.Forest.{Forest}
use Rattle.forest_model.specs.Listing.{IsListing}
use Rattle.run_model.specs.Listing.{line_of, first_of}
use Rattle.run_model.specs.Outside.{Stream}
use Rattle.tree_iter.specs.Iteration.{Iteration, EndsAt, AreGiven}
use Rattle.value_lines.specs.declared.writing.WriteRefusal.{WriteRefusal}
use Rattle.value_lines.specs.declared.writing.WriteRefusal.TheVariants.{WriteFault, NoMemory}
use Rattle.value_lines.specs.Lines.{IsForestOf}

-- one teller of each kind, and neither holds anything
abbrev pub AreBothTellers : List (Show × List Value) → Type 0
AreBothTellers tellers = (tellers ≡ (ShowArray, []) ∷ (ShowTree, []) ∷ []) ⊎ (tellers ≡ (ShowTree, []) ∷ (ShowArray, []) ∷ [])

-- the text of the lines of the first derivations of a forest has P
abbrev pub TextHas : (b : Built) (show : Show) (cs : List ℕ) (spans : List Span) (f : Forest) (first : Option ℕ) → (List ℕ → Type 0) → Type 0
TextHas b show cs spans f first P =
    (pieces : List Piece) → IsForestOf b cs spans f pieces → (trees : List Tree) × IsListing f trees × P (concat (map (line_of b show cs pieces) (first_of first trees)))

-- so many of the first derivations of a forest are one, and it has these steps
pub record IsAllAsked (f : Forest) (first : Option ℕ) (steps : List Step) : Type 0 where
  pub tree : Tree
  pub others : List Tree
  pub listing : IsListing f (tree ∷ others)
  pub alone : first_of first (tree ∷ others) ≡ tree ∷ []
  pub steps_are : steps ≡ steps_of tree

-- a text and the line feed after it
pub record IsWholeLine (piece : List ℕ) : Type 0 where
  pub text : List ℕ
  pub ended : piece ≡ text ++ 10 ∷ []

-- a text was not all written: a prefix of it was
abbrev pub TextStops : (before after : Stream) → WriteRefusal → (text : List ℕ) → Type 0
TextStops before after WriteFault text = Rose before.faults after.faults × AppendsPrefix before.bytes after.bytes text
TextStops before after NoMemory text = AppendsPrefix before.bytes after.bytes text

-- what comes after these derivations has P
abbrev pub RestHas : Forest → (before : List Tree) → (P : List Tree → Type 0) → Type 0
RestHas f before P = (rest : List Tree) × IsListing f (before ++ rest) × P rest

-- the iterator stands at the last of these, where there is one
abbrev pub StandsAt : Iteration → (given : List Tree) → Type 0
StandsAt it given = 0 < length given → (steps : List Step) × (it.current ≡ Some steps) × EndsAt given steps

-- so many are no more than were asked for
abbrev pub IsWithin : (first : Option ℕ) → ℕ → Type 0
IsWithin first n = IfSome first (λ m. n ≤ m)

-- after those before, so many were given as were asked for
pub record AreEnough (before : List Tree) (first : Option ℕ) (it : Iteration) (given : List Tree) : Type 0 where
  pub are : AreGiven it (before ++ given)
  pub count : first ≡ Some (length given)
  pub stands : StandsAt it given

-- all that were left, and no more than were asked for
pub record AreRest (before : List Tree) (first : Option ℕ) (it : Iteration) (given : List Tree) : Type 0 where
  pub listing : IsListing it.forest (before ++ given)
  pub within : IsWithin first (length given)

abbrev pub HaveCome : (before : List Tree) → (first : Option ℕ) → Iteration → (given : List Tree) → (enough : Bool) → Type 0
HaveCome before first it given true = AreEnough before first it given
HaveCome before first it given false = AreRest before first it given

-- the lines of these were written, in at most as many steps as they have choices
pub record WroteLines (b : Built) (show : Show) (cs : List ℕ) (pieces : List Piece) (given : List Tree) (old new : Option (List ℕ)) (before after : ℕ) : Type 0 where
  pub appends : Appends old new (concat (map (line_of b show cs pieces) given))
  pub few : after ≤ before + sum_by choices given
