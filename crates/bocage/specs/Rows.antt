-- Nodes and alternatives as they are kept, and what they stand for.
use Rattle.std.specs.Prelude.{◌≡◌, ℕ, ◌<◌, ◌≤◌, List, [], ◌∷◌, Some, None, length, map, slice_get, Contains}
use Rattle.forest_model.specs.Forest.{Cause, AnEdge, Nothing, Wholes, Alternative, ForestNode}
use Rattle.forest_parts.specs.Lists.{between}
use Rattle.bocage.specs.declared.rows.CauseRow.{CauseRow}
use Rattle.bocage.specs.declared.rows.CauseRow.TheVariants as row
use Rattle.bocage.specs.declared.rows.AlternativeRow.{AlternativeRow}
use Rattle.recognizer_model.specs.declared.NodeKey.{NodeKey}
use Rattle.bocage.specs.declared.rows.Cause.{Cause as HeldCause}
use Rattle.bocage.specs.declared.rows.Cause.TheVariants as part

abbrev pub cause_of : List ℕ → CauseRow → Cause
cause_of wholes row.Edge = AnEdge
cause_of wholes row.Nothing = Nothing
cause_of wholes (row.Wholes first end) = Wholes (between first end wholes)

abbrev pub alternative_of : List ℕ → AlternativeRow → Alternative
alternative_of wholes a = record { start = a.start; predecessor = a.predecessor; cause = cause_of wholes a.cause }

-- nodes by their keys, with the alternatives of each
abbrev pub nodes_of : (wholes : List ℕ) → List NodeKey → List (List AlternativeRow) → List ForestNode
nodes_of wholes [] rows = []
nodes_of wholes (key ∷ keys) [] = []
nodes_of wholes (key ∷ keys) (row ∷ rows) = record { key = key; alternatives = map (alternative_of wholes) row } ∷ nodes_of wholes keys rows

-- the places of a row are among those that there are
abbrev pub IsCauseWithin : List ℕ → CauseRow → Type 0
IsCauseWithin wholes row.Edge = Unit {0}
IsCauseWithin wholes row.Nothing = Unit {0}
IsCauseWithin wholes (row.Wholes first end) = (first ≤ end) × (end ≤ length wholes)

abbrev pub AreWithin : List AlternativeRow → List ℕ → Type 0
AreWithin alternatives wholes = (a : AlternativeRow) → Contains alternatives a → IsCauseWithin wholes a.cause

-- each node has its alternatives
pub record IsTable (keys : List NodeKey) (table : List (List AlternativeRow)) (wholes : List ℕ) : Type 0 where
  pub long : length keys ≤ length table
  pub within : (n : ℕ) (rows : List AlternativeRow) → n < length keys → slice_get table n ≡ Some rows → AreWithin rows wholes

-- past the last one no row is told
abbrev pub no_alternative : AlternativeRow
no_alternative = record { start = 0; predecessor = None; cause = row.Edge }

abbrev pub cause_told : HeldCause → Cause
cause_told part.Edge = AnEdge
cause_told part.Nothing = Nothing
cause_told (part.Wholes nodes) = Wholes nodes.now
