-- What is noted of glades: of each kind the smallest, and how many there are.
use Rattle.std.specs.Prelude.{◌≡◌, ℕ, true, List, Option, Some, None, slice_get}
use Rattle.indexmap.specs.IndexMap.{IndexMap, get}
use Rattle.glade_model.specs.Glades.{Glade}
use Rattle.glade_groups.specs.Groups.{is_of, same_kind, token_count, count_of, IsSmallest}
use Rattle.glade_groups.specs.declared.kinds.Kind.{Kind}
use Rattle.glade_groups.specs.declared.notes.Note.{Note}

-- the note of a kind of which there are glades, or none
abbrev pub IsNote : List Glade → Kind → Option Note → Type 0
IsNote glades kind (Some note) = (smallest : IsSmallest glades kind note.at) × (note.tokens ≡ token_count smallest.glade) × (note.count ≡ count_of glades kind)
IsNote glades kind None = (k : ℕ) (glade : Glade) → slice_get glades k ≡ Some glade → is_of kind glade ≡ true → ⊥

abbrev pub AreNotes : {S : Type 0} → List Glade → IndexMap Kind Note S → Type 0
AreNotes glades notes = (kind : Kind) → IsNote glades kind (get same_kind notes kind)
