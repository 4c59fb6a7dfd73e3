-- Marks of the terminals that a row waits for, its postdot terminals, and their list.
use Rattle.std.specs.Prelude.{◌≡◌, ◌≢◌, ℕ, ◌<◌, ◌≤◌, ◌↔◌, List, length, Some, slice_get, vec_capacity, Contains}
use Rattle.std.specs.List.{AllPairs}
use Rattle.recognizer_model.specs.declared.flat.FlatSymbol.TheVariants.{Terminal}
use Rattle.recognizer_model.specs.declared.Item.{Item}
use Rattle.recognizer_model.specs.Flat.{FlatGrammar}
use Rattle.recognizer_model.specs.Items.{after}
use Rattle.expected_terminals.specs.declared.marks.Marks.{Marks}

-- an item waits for the terminal
abbrev pub WaitsFor : FlatGrammar → Item → (t : ℕ) → Type 0
WaitsFor g item t = (x : ℕ) × (after g item ≡ Some x) × (slice_get g.symbols x ≡ Some (Terminal t))

-- some item of the row waits for the terminal
abbrev pub IsAwaitedTerminal : FlatGrammar → List Item → (t : ℕ) → Type 0
IsAwaitedTerminal g row t = (item : Item) × Contains row item × WaitsFor g item t

abbrev pub AreAtMost : (bound : ℕ) → (marks : List ℕ) → Type 0
AreAtMost bound marks = (x m : ℕ) → slice_get marks x ≡ Some m → m ≤ bound

-- each symbol has a mark, and all may be listed
pub record HasRoom (g : FlatGrammar) (marks : Marks) : Type 0 where
  pub all : length marks.rows.items ≡ length g.symbols
  pub room : length g.symbols ≤ vec_capacity marks.listed

-- the symbols of the terminals that are listed have the mark, and no other; no mark is greater
pub record AreMarked (g : FlatGrammar) (mark : ℕ) (marks listed : List ℕ) : Type 0 where
  pub most : AreAtMost mark marks
  pub exact : (x m t : ℕ) → slice_get marks x ≡ Some m → slice_get g.symbols x ≡ Some (Terminal t) → (m ≡ mark) ↔ Contains listed t
  pub known : (t : ℕ) → Contains listed t → (x : ℕ) × (slice_get g.symbols x ≡ Some (Terminal t))
  pub once : AllPairs (λ s t. s ≢ t) listed

-- just the terminals that the row waits for, in order
pub record AreTerminalsOf (g : FlatGrammar) (row : List Item) (terminals : List ℕ) : Type 0 where
  pub order : AllPairs (λ s t. s < t) terminals
  pub exact : (t : ℕ) → Contains terminals t ↔ IsAwaitedTerminal g row t
