-- Edges, each with the newest one before it that ends where it does.
use Rattle.std.specs.Prelude.{◌≡◌, ◌≢◌, ℕ, ◌<◌, List, length, map, Option, Some, None, slice_get, AllPairs}
use Rattle.grammar_model.specs.declared.Edge.{Edge as HeldEdge}
use Rattle.grammar_core.specs.declared.long.LongEdge.{LongEdge}

abbrev pub all_held : List LongEdge → List HeldEdge
all_held edges = map (λ e. e.edge) edges

-- of the first n edges, that number is the last that ends at the place
pub record IsLastTo (edges : List LongEdge) (place n number : ℕ) : Type 0 where
  pub below : number < n
  pub edge : LongEdge
  pub at : slice_get edges number ≡ Some edge
  pub ends : edge.edge.to ≡ place
  pub last : (k : ℕ) (e : LongEdge) → number < k → k < n → slice_get edges k ≡ Some e → e.edge.to ≢ place

-- of the first n edges, the last that ends at the place, if one does
abbrev pub IsNewest : List LongEdge → (place n : ℕ) → Option ℕ → Type 0
IsNewest edges place n None = (k : ℕ) (e : LongEdge) → k < n → slice_get edges k ≡ Some e → e.edge.to ≢ place
IsNewest edges place n (Some number) = IsLastTo edges place n number

-- each edge is held once, and leads to the one before it that ends where it does; each place leads to the newest that ends there
pub record AreChained (edges : List LongEdge) (newest : ℕ → Option ℕ) : Type 0 where
  pub before : (k : ℕ) (e : LongEdge) → slice_get edges k ≡ Some e → IsNewest edges e.edge.to k e.below
  pub to : (place : ℕ) → IsNewest edges place (length edges) (newest place)
  pub once : AllPairs (λ d e. d ≢ e) (all_held edges)
