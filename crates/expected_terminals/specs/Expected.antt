-- What is known of the terminals that the last set waits for: notes of earlier sets, and lists.
use Rattle.std.specs.Prelude.{◌≡◌, ◌⊎◌, ◌↔◌, ℕ, ◌-◌, ◌<◌, List, Option, Some, None, length, Contains}
use Rattle.recognizer_model.specs.declared.Item.{Item}
use Rattle.recognizer_model.specs.Flat.{FlatGrammar}
use Rattle.jagged.specs.Rows.{row_at as list_at}
use Rattle.item_rows.specs.Rows.{row_at, IsBegunAt}
use Rattle.item_rows.specs.Kept.{WaitsForTerminal}
use Rattle.expected_terminals.specs.Marks.{HasRoom, AreAtMost, IsAwaitedTerminal, AreTerminalsOf}
use Rattle.expected_terminals.specs.declared.expected.Note.{Note}
use Rattle.expected_terminals.specs.declared.expected.Expected.{Expected}

-- the place that is told for the last one
abbrev pub place_told : (last : ℕ) → Option Note → ℕ
place_told last None = last
place_told last (Some note) = note.place

-- the number of the list that is told of it
abbrev pub number_told : Option Note → ℕ
number_told None = 4294967295
number_told (Some note) = note.list

-- the terminals that are told of it
abbrev pub list_told : (lists : List (List ℕ)) → (listed : List ℕ) → Option Note → List ℕ
list_told lists listed None = listed
list_told lists listed (Some note) = list_at lists note.list

-- the lists that were there stay
pub record KeepsLists (old new : List (List ℕ)) : Type 0 where
  pub there : (k : ℕ) → k < length old → k < length new
  pub same : (k : ℕ) → k < length old → list_at new k ≡ list_at old k

-- the list of a note has just the terminals that the sets of both its places wait for
pub record NotesTerminals (g : FlatGrammar) (sets : List (List Item)) (lists : List (List ℕ)) (note : Note) : Type 0 where
  pub place : note.place < length sets
  pub like : note.like < length sets
  pub list : note.list < length lists
  pub are : AreTerminalsOf g (row_at sets note.place) (list_at lists note.list)
  pub are_like : AreTerminalsOf g (row_at sets note.like) (list_at lists note.list)

abbrev pub AreNotes : FlatGrammar → (sets : List (List Item)) → (lists : List (List ℕ)) → List (Option Note) → Type 0
AreNotes g sets lists notes = (note : Note) → Contains notes (Some note) → NotesTerminals g sets lists note

-- the row waits for terminals by those items alone that it shares, begun at its place
abbrev pub WaitsByList : FlatGrammar → (row list : List Item) → (place : ℕ) → Type 0
WaitsByList g row list j = (item : Item) → WaitsForTerminal g item → Contains row item ↔ IsBegunAt list j item

-- the rows wait for the same terminals
abbrev pub WaitAlike : FlatGrammar → (row other : List Item) → Type 0
WaitAlike g row other = (t : ℕ) → IsAwaitedTerminal g row t ↔ IsAwaitedTerminal g other t

-- a note of a place for these terminals. It tells that place, or the one that another note of these terminals tells
pub record IsOfListed (old new : List (List ℕ)) (terminals : List ℕ) (told : Option Note) (here : ℕ) (note : Note) : Type 0 where
  pub like : note.like ≡ here
  pub list : note.list < length new
  pub same : list_at new note.list ≡ terminals
  pub place : (note.place ≡ here) ⊎ ((other : Note) × (told ≡ Some other) × (list_at old other.list ≡ terminals) × (note.place ≡ other.place))

-- what is told of the last set is right, and so are all notes; there is room to list more
pub record KnowsLast (g : FlatGrammar) (sets : List (List Item)) (expected : Expected) : Type 0 where
  pub room : HasRoom g expected.marks
  pub most : AreAtMost (length sets) expected.marks.rows.items
  pub notes : AreNotes g sets expected.lists expected.notes.items
  pub note : (note : Note) → expected.last ≡ Some note → NotesTerminals g sets expected.lists note
  pub last : AreTerminalsOf g (row_at sets (length sets - 1)) (list_told expected.lists expected.marks.listed.items expected.last)
