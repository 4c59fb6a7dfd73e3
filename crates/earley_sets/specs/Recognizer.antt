-- Recognizers: the edges that they hold, the reduced item sets of all places so far, and the Leo pairs that were noted.
-- Sources: Earley 1970 (item sets); Leo 1991 (reduced sets); Aycock and Horspool 2002 (nullable symbols); the Libmarpa manual (alternatives, earlemes).
use Rattle.std.specs.Prelude.{◌≡◌, ◌≢◌, ℕ, ◌-◌, ◌+◌, ◌<◌, ◌≤◌, List, [], length, slice_get, slice_index, slice_index_or, Some, Contains, AllPairs}
use Rattle.grammar_model.specs.declared.Edge.{Edge as HeldEdge}
use Rattle.grammar_model.specs.Grammar.{slot_of}
use Rattle.grammar_model.specs.Trees.{Tree}
use Rattle.grammar_model.specs.Derives.{Edges, Held, Derives}
use Rattle.grammar_model.specs.Acceptable.{IsAcceptable}
use Rattle.grammar_model.specs.declared.limits.TheConstants.{LAST_PLACE}
use Rattle.recognizer_model.specs.declared.Item.{Item}
use Rattle.recognizer_model.specs.declared.Pair.{Pair}
use Rattle.recognizer_model.specs.Flat.{FlatGrammar, lhs_of, rhs_of}
use Rattle.recognizer_model.specs.declared.flat.FlatSymbol.TheVariants.{Terminal}
use Rattle.recognizer_model.specs.FlatForm.{FlatEdges}
use Rattle.recognizer_model.specs.View.{grammar_view}
use Rattle.recognizer_model.specs.Invariant.{IsFlat}
use Rattle.recognizer_model.specs.Leo.{InReduced}
use Rattle.recognizer_model.specs.Links as model
use Rattle.recognizer_model.specs.Counts.{IsListOf}
use Rattle.item_rows.specs.Kept.{AreRows}
use Rattle.expected_terminals.specs.Marks.{IsAwaitedTerminal}
use Rattle.leo_items.specs.Memo.{Note}
use Rattle.leo_items.specs.ByRows.{IsMemo}

-- the start is a place among the grammar's starts
pub record Recognizer : Type 0 where
  pub flat : FlatGrammar
  pub start : ℕ
  pub edges : List HeldEdge
  pub sets : List (List Item)
  pub noted : List Pair

-- the last place of which the set is made
abbrev pub earleme_of : Recognizer → ℕ
earleme_of r = length r.sets - 1

abbrev pub set_at : Recognizer → ℕ → List Item
set_at r j = slice_index_or r.sets j []

abbrev pub edges_of : Recognizer → Edges
edges_of r = FlatEdges r.flat (Held r.edges)

-- how many pairs were noted
abbrev pub made : Recognizer → ℕ
made r = length r.noted

-- the rule of the start's top, and the start's symbol
abbrev pub top_of : Recognizer → ℕ
top_of r = slice_index r.flat.tops r.start

abbrev pub start_symbol : Recognizer → ℕ
start_symbol r = slice_index (rhs_of r.flat (top_of r)) 0

-- the edge of a terminal that begins at the last place
abbrev pub new_edge : Recognizer → (t length : ℕ) → HeldEdge
new_edge r t n = record { symbol = t; from = earleme_of r; to = earleme_of r + n }

-- the terminal is acceptable at the last place
abbrev pub IsExpected : Recognizer → ℕ → Type 0
IsExpected r t = (x : ℕ) × (slice_get r.flat.symbols x ≡ Some (Terminal t)) × IsAcceptable (grammar_view r.flat) (edges_of r) (lhs_of r.flat (top_of r)) x (earleme_of r)

-- an item of the set of the place waits for the terminal
abbrev pub WaitsAt : Recognizer → (place t : ℕ) → Type 0
WaitsAt r place t = IsAwaitedTerminal r.flat (set_at r place) t

-- a tree of the start spans the edges up to the last place
abbrev pub HasTree : Recognizer → Type 0
HasTree r = (tree : Tree) × Derives (grammar_view r.flat) (edges_of r) (slot_of (start_symbol r)) 0 (earleme_of r) tree

-- a pair of a place so far has a Leo item
abbrev pub IsLeoPair : Recognizer → Pair → Type 0
IsLeoPair r = model.IsLeoPair r.flat (edges_of r) (top_of r) (earleme_of r)

pub record IsRecognizer (r : Recognizer) : Type 0 where
  pub flat : IsFlat r.flat
  pub start : r.start < length r.flat.tops
  pub some : 0 < length r.sets
  pub in_range : earleme_of r ≤ LAST_PLACE
  pub once : AllPairs (λ d e. d ≢ e) r.edges
  pub forward : (e : HeldEdge) → Contains r.edges e → e.from < e.to
  pub begun : (e : HeldEdge) → Contains r.edges e → e.from ≤ earleme_of r
  pub known : (e : HeldEdge) → Contains r.edges e → (x : ℕ) × (slice_get r.flat.symbols x ≡ Some (Terminal e.symbol))
  pub exact : (j : ℕ) → j < length r.sets → IsListOf (InReduced r.flat (edges_of r) (top_of r) j) (set_at r j)
  pub noted_once : AllPairs (λ p q. p ≢ q) r.noted
  pub noted_leo : (pair : Pair) → Contains r.noted pair → IsLeoPair r pair

-- the recognizer's sets are rows, and what is noted of their pairs is right
pub record IsKept (r : Recognizer) (top : ℕ) (notes : List Note) : Type 0 where
  pub is : IsRecognizer r
  pub rows : AreRows r.flat r.sets
  pub memo : IsMemo r.flat r.sets notes
  pub top_is : top ≡ top_of r
