-- Token edges, held by the places where they begin.
use Rattle.std.specs.Prelude.{◌≡◌, ◌≢◌, ℕ, ◌+◌, ◌-◌, ◌<◌, ◌≤◌, ◌↔◌, List, [], ◌∷◌, length, Option, Some, AllPairs, Contains, slice_index}
use Rattle.grammar_model.specs.declared.Edge.{Edge as HeldEdge}
use Rattle.grammar_model.specs.declared.limits.TheConstants.{LAST_PLACE, LONGEST_EDGE}
use Rattle.grammar_core.specs.declared.edges.Edge.{Edge}

-- the edge that begins at a place
abbrev pub placed : ℕ → Edge → HeldEdge
placed at e = record { symbol = e.symbol; from = at; to = at + e.length }

abbrev pub all_placed : List ℕ → List Edge → List HeldEdge
all_placed [] es = []
all_placed (p ∷ ps) [] = []
all_placed (p ∷ ps) (e ∷ es) = placed p e ∷ all_placed ps es

-- none begins after the place
abbrev pub GoFrom : List HeldEdge → ℕ → Type 0
GoFrom edges at = (e : HeldEdge) → Contains edges e → e.from ≤ at

abbrev pub AreOrdered : List ℕ → Type 0
AreOrdered places = (i j : ℕ) → i ≤ j → j < length places → slice_index places i ≤ slice_index places j

-- the edges that span more than one place
abbrev pub AreLongOf : List HeldEdge → List HeldEdge → Type 0
AreLongOf edges long = (e : HeldEdge) → Contains long e ↔ (Contains edges e × (e.from + 1 < e.to))

-- an edge of length one to the place, of those that begin just before it
abbrev pub IsShortTo : List Edge → ℕ → HeldEdge → Type 0
IsShortTo edges place e = (x : Edge) × Contains edges x × (x.length ≡ 1) × (e ≡ placed (place - 1) x)

-- of a place that no edge begins after it is told whether an edge with a symbol and a length begins there
abbrev pub AreLatest : List HeldEdge → (ℕ → ℕ → Option ℕ) → Type 0
AreLatest edges latest = (symbol length at : ℕ) → length < 4294967296 → GoFrom edges at →
    (latest symbol length ≡ Some at) ↔ Contains edges (record { symbol = symbol; from = at; to = at + length })

-- the places are in order, each edge is held once, and none is empty or longer than an edge may be
pub record ArePlaced (places : List ℕ) (edges : List Edge) (longer : List HeldEdge) : Type 0 where
  pub same : length places ≡ length edges
  pub order : AreOrdered places
  pub in_range : (p : ℕ) → Contains places p → p ≤ LAST_PLACE
  pub some : (e : Edge) → Contains edges e → 0 < e.length
  pub short : (e : Edge) → Contains edges e → e.length ≤ LONGEST_EDGE
  pub once : AllPairs (λ a b. a ≢ b) (all_placed places edges)
  pub long : AreLongOf (all_placed places edges) longer
