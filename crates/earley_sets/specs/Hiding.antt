-- What is noted while sets are made: at which places two single steps lead on from a whole item.
use Rattle.std.specs.Prelude.{◌≡◌, ℕ, ◌<◌, ◌↔◌, List, length, Bool, Some, slice_get, Contains, IsTrue}
use Rattle.recognizer_model.specs.declared.Item.{Item}
use Rattle.recognizer_model.specs.Flat.{FlatGrammar, lhs_of}
use Rattle.recognizer_model.specs.Items.{IsWhole}
use Rattle.leo_items.specs.ByRows.{IsLeoIn}
use Rattle.leo_items.specs.Hidden.{StepsTwice, SomeStepsTwiceIn}

-- a single step leads on from a symbol that began at the place, and from that another
abbrev pub GoesTwice : FlatGrammar → List (List Item) → (i x : ℕ) → Type 0
GoesTwice g rows i x = (leo : Item) × IsLeoIn g rows i x leo × ((next : Item) × IsLeoIn g rows leo.origin (lhs_of g leo.rule) next)

-- two single steps lead on from a whole item of a set
abbrev pub WholeStepsTwice : FlatGrammar → List (List Item) → (earleme : ℕ) → Item → Type 0
WholeStepsTwice g rows earleme item = IsWhole g item × StepsTwice g rows earleme 0 item

-- from one of some items they do
abbrev pub OneStepsTwice : FlatGrammar → List (List Item) → (earleme : ℕ) → List Item → Type 0
OneStepsTwice g rows earleme items = (item : Item) × Contains items item × WholeStepsTwice g rows earleme item

-- of each place it is noted whether they do from an item of its row
abbrev pub NotesTwice : FlatGrammar → List (List Item) → List Bool → Type 0
NotesTwice g rows notes = (j : ℕ) → j < length rows → (note : Bool) × (slice_get notes j ≡ Some note) × (IsTrue note ↔ SomeStepsTwiceIn g rows j 0)
