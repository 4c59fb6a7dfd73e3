-- What readers of a forest tell: nodes and alternatives by their numbers.
use Rattle.std.specs.Prelude.{ℕ, List, [], None, slice_index_or}
use Rattle.forest_model.specs.Forest.{AnEdge, Alternative, ForestNode, Forest}

-- past the last one no alternative is told, and no node
abbrev pub alternative_at : List Alternative → ℕ → Alternative
alternative_at alternatives k = slice_index_or alternatives k (record { start = 0; predecessor = None; cause = AnEdge })

abbrev pub node_at : Forest → ℕ → ForestNode
node_at f n = slice_index_or f.nodes n (record { key = record { rule = 0; dot = 0; origin = 0; end = 0 }; alternatives = [] })
