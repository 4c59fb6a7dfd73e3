-- Writing a page: the lines of derivations after a place, and a last line that tells where to go on.
use Rattle.std.specs.Prelude.{◌≡◌, ℕ, ◌⊎◌, false, List, [], length, map, Option, Some, None, option_map, option_copied}
use Rattle.std.specs.List.{concat}
use Rattle.std.specs.Borrow.{Bor}
use Rattle.std.specs.Io.KnownBytes.{Appends}
use Rattle.outside_model.specs.Causes.{Rose}
use Rattle.outside_model.specs.Told.{AppendsPrefix}
use Rattle.grammar_model.specs.Trees.{Tree}
use Rattle.grammar_model.specs.Steps.{Step, steps_of}
use Rattle.grammar_model.specs.declared.Show.{Show}
use Rattle.grammar_core.specs.declared.steps.Span.{Span}
use Rattle.grammar_core.specs.declared.steps.TreeStep.{TreeStep}
use Rattle.grammar_core.specs.Steps.{step_of}
use Rattle.cursor_model.specs.Laid.{Spells}
use Rattle.cursor_model.specs.Rest.{start_text, IsPlaceOf, NamesNone}
use Rattle.language_model.specs.Building.{Built}
use Rattle.reading_model.specs.Reading.{Piece}
use Rattle.forest_model.specs.Forest.{Forest}
use Rattle.forest_model.specs.Listing.{IsListing}
use Rattle.run_model.specs.More.{page_lines}
use Rattle.run_model.specs.Outside.{Stream}
use Rattle.tree_iter.specs.Iteration.{Iteration, HasNone}
use Rattle.value_lines.specs.declared.page.PageRefusal.{PageRefusal}
use Rattle.value_lines.specs.declared.page.PageRefusal.TheVariants.{NoSuchPlace, WriteFault, NoMemory}
use Rattle.value_lines.specs.declared.writing.WriteRefusal.{WriteRefusal}
use Rattle.value_lines.specs.declared.writing.WriteRefusal.TheVariants as unwritten
use Rattle.value_lines.specs.Lines.{IsForestOf}

-- the steps of the derivation at a place, where it is at one
abbrev pub steps_at : Option (Bor (List TreeStep)) → Option (List Step)
steps_at to = option_map (map step_of) (option_copied to)

abbrev pub count_at : Option (List Step) → ℕ
count_at None = 0
count_at (Some steps) = length steps

-- the text is that of the place before the first derivation, or it spells a tree with these steps
abbrev pub IsPlaceTold : (after : List ℕ) → Option (List Step) → Type 0
IsPlaceTold after None = after ≡ start_text
IsPlaceTold after (Some steps) = (tree : Tree) × Spells after tree × (steps ≡ steps_of tree)

-- lines that were not all written
abbrev pub page_refusal : WriteRefusal → PageRefusal
page_refusal unwritten.WriteFault = WriteFault
page_refusal unwritten.NoMemory = NoMemory

-- an iterator that stands at the place
abbrev pub at_place : Forest → Option (List Step) → Iteration
at_place f to = record { forest = f; ended = false; current = to }

-- the forest has no such place
abbrev pub LacksPlace : Forest → Option (List Step) → Type 0
LacksPlace f None = ⊥
LacksPlace f (Some steps) = HasNone f steps

-- the text of a page has P
abbrev pub PageHas : (b : Built) (show : Show) (first : Option ℕ) (after cs : List ℕ) (spans : List Span) (f : Forest) → (List ℕ → Type 0) → Type 0
PageHas b show first after cs spans f P = (pieces : List Piece) → IsForestOf b cs spans f pieces → (trees : List Tree) × (given : List Tree) × (rest : List Tree) ×
    IsListing f trees × IsPlaceOf after trees given rest × P (concat (page_lines b show first after cs pieces rest))

-- why a page was not all written: the text names no place; a write failed, after a prefix of the page; or memory ran out, after a prefix or
-- before it was known whether the text names a place
abbrev pub PageStops : Built → Show → (first : Option ℕ) → (after cs : List ℕ) → List Span → Forest → (before later : Stream) → PageRefusal → Type 0
PageStops b show first after cs spans f before later NoSuchPlace = ((trees : List Tree) → IsListing f trees → NamesNone trees after) × Appends before.bytes later.bytes []
PageStops b show first after cs spans f before later WriteFault = PageHas b show first after cs spans f (λ text. Rose before.faults later.faults × AppendsPrefix before.bytes later.bytes text)
PageStops b show first after cs spans f before later NoMemory = Appends before.bytes later.bytes [] ⊎ PageHas b show first after cs spans f (λ text. AppendsPrefix before.bytes later.bytes text)
