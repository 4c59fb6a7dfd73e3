-- A pool's nodes, and the values that they stand for: a text is a part of the bytes, and a list a part of the items,
-- which name earlier nodes.
use Rattle.std.specs.Prelude.{ℕ, ◌<◌, ◌≤◌, List, [], ◌∷◌, ◌++◌, map, length, slice_range, slice_index_or}
use Rattle.std.specs.Str.{IsCharBoundary}
use Rattle.value_text.specs.declared.pool.Node.{Node}
use Rattle.value_text.specs.declared.pool.Node.TheVariants.{Undefined as UndefinedNode, Number as NumberNode, Text as TextNode, List as ListNode}
use Rattle.grammar_model.specs.Values.{Value, Undefined, Number, Text, list_of}

-- the value of an id among the values of a pool
abbrev pub value_at : List Value → ℕ → Value
value_at values id = slice_index_or values id Undefined

module _ (items bytes : List ℕ) where
  abbrev pub value_of_node : List Value → Node → Value
  value_of_node values UndefinedNode = Undefined
  value_of_node values (NumberNode n) = Number n
  value_of_node values (TextNode from to) = Text (slice_range bytes from to)
  value_of_node values (ListNode from to) = list_of (map (value_at values) (slice_range items from to))

  -- the values so far, and then those of the nodes
  abbrev pub values_from : List Value → List Node → List Value
  values_from values [] = values
  values_from values (node ∷ nodes) = values_from (values ++ value_of_node values node ∷ []) nodes

  -- a node at place k
  abbrev pub IsNode : ℕ → Node → Type 0
  IsNode k UndefinedNode = Unit {0}
  IsNode k (NumberNode n) = Unit {0}
  IsNode k (TextNode from to) = (from ≤ to) × IsCharBoundary bytes from × IsCharBoundary bytes to
  IsNode k (ListNode from to) = (from ≤ to) × (to ≤ length items) × ((j : ℕ) → from ≤ j → j < to → slice_index_or items j 0 < k)

abbrev pub IsPool : List Node → List ℕ → List ℕ → Type 0
IsPool nodes items bytes = (k : ℕ) → k < length nodes → IsNode items bytes k (slice_index_or nodes k UndefinedNode)
