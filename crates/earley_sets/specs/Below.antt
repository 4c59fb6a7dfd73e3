-- The single steps of a recognizer's set, where they lead, and the hidden items below an item.
use Rattle.std.specs.Prelude.{◌≡◌, ℕ, ◌<◌, ◌≤◌, List, Contains}
use Rattle.recognizer_model.specs.declared.Item.{Item}
use Rattle.recognizer_model.specs.Flat.{lhs_of}
use Rattle.recognizer_model.specs.Items.{IsWhole, advanced}
use Rattle.recognizer_model.specs.Leo.{IsLeo, LeadsTo}
use Rattle.recognizer_model.specs.Below.{IsBelow}
use Rattle.earley_sets.specs.Recognizer.{Recognizer, set_at, edges_of, top_of}

-- the single step of an item of a recognizer's set that begins before the set
abbrev pub StepsTo : Recognizer → (j : ℕ) → (item other : Item) → Type 0
StepsTo r j item other = (item.origin < j) × ((leo : Item) × IsLeo r.flat (edges_of r) (top_of r) item.origin (lhs_of r.flat item.rule) leo × (other ≡ advanced leo))

-- two single steps lead on from a kept whole item of the set, and the first leads to one that begins at `from` or after it
abbrev pub SomeStepsTwice : Recognizer → (j from : ℕ) → Type 0
SomeStepsTwice r j from =
    (item : Item) × (Contains (set_at r j) item × IsWhole r.flat item) × ((step : Item) × (StepsTo r j item step × (from ≤ step.origin)) × ((next : Item) × StepsTo r j step next))

-- completions of it lead to the other in the end
abbrev pub LeadsUp : Recognizer → (j : ℕ) → (item topmost : Item) → Type 0
LeadsUp r j item topmost = (item.origin < j) × LeadsTo r.flat (edges_of r) (top_of r) item.origin (lhs_of r.flat item.rule) topmost

abbrev pub IsBottom : Recognizer → (j : ℕ) → (topmost item : Item) → Type 0
IsBottom r j topmost item = Contains (set_at r j) item × IsWhole r.flat item × (item.origin < j) × LeadsTo r.flat (edges_of r) (top_of r) item.origin (lhs_of r.flat item.rule) topmost

abbrev pub StandsBelow : Recognizer → (j : ℕ) → (topmost item : Item) → Type 0
StandsBelow r j topmost item = IsBelow r.flat (edges_of r) (top_of r) j topmost item

-- the same for one of some topmost items
abbrev pub IsBottomOf : Recognizer → (j : ℕ) → (tops : List Item) → Item → Type 0
IsBottomOf r j tops item = (topmost : Item) × Contains tops topmost × IsBottom r j topmost item

abbrev pub StandsBelowOf : Recognizer → (j : ℕ) → (tops : List Item) → Item → Type 0
StandsBelowOf r j tops item = (topmost : Item) × Contains tops topmost × StandsBelow r j topmost item
