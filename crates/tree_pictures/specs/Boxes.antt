-- The boxes of a picture: each node stands in one, and a node alone below the one before it may stand in that one's.
use Rattle.std.specs.Prelude.{ℕ, ◌+◌, ◌-◌, ◌==◌, ◌&&◌, ◌≡◌, ◌<◌, nat_lt, Bool, true, false, if◌then◌else◌, List, [], ◌∷◌, ◌++◌, length, slice_get, slice_index, slice_index_or, codes, bytes_eq, map, count_by, Option, Some, None}
use Rattle.std.specs.List.{range_with_len}
use Rattle.tree_text.specs.declared.nodes.Label.{Label}
use Rattle.tree_text.specs.declared.nodes.Label.TheVariants as label
use Rattle.tree_text.specs.declared.nodes.Node.{Node}
use Rattle.tree_text.specs.Written.{name_text, label_text}
use Rattle.tree_text.specs.Nested.{AreNested}
use Rattle.tree_pictures.specs.declared.places.Tile.{Tile}
use Rattle.tree_pictures.specs.Places.{width_for, ArePlaced}
use Rattle.tree_pictures.specs.Pictures.{IsPicture}

-- LABELS

abbrev pub is_quoted : (name text : List ℕ) → Bool
is_quoted name text = bytes_eq name (codes "'" ++ (text ++ codes "'"))

-- a token whose name is its text in quotes has that alone
abbrev pub short_label : Label → List ℕ
short_label (label.Rule name rule) = label_text (label.Rule name rule)
short_label (label.Token name text) = if is_quoted name.now text.now then name_text name.now else label_text (label.Token name text)
short_label (label.Nulled name) = label_text (label.Nulled name)
short_label label.List = label_text label.List
short_label label.Undefined = label_text label.Undefined
short_label (label.Number n) = label_text (label.Number n)
short_label (label.Text text) = label_text (label.Text text)

-- a dot in UTF-8, between spaces
abbrev pub dot : List ℕ
dot = 32 ∷ 194 ∷ 183 ∷ 32 ∷ []

-- COUNTS

abbrev pub is_that : ℕ → Option ℕ → Bool
is_that i None = false
is_that i (Some above) = above == i

abbrev pub one_if : Bool → ℕ
one_if true = 1
one_if false = 0

-- how many of the nodes have the one at i right above them
abbrev pub count_below : List Node → ℕ → ℕ
count_below nodes i = count_by (λ node. is_that i node.above) nodes

-- how many are right below each node
abbrev pub counts_of : List Node → List ℕ
counts_of nodes = map (count_below nodes) (range_with_len 0 (length nodes))

-- BOXES, by how many nodes are right below each node

abbrev pub is_behind : Option ℕ → ℕ → Bool
is_behind None i = false
is_behind (Some above) i = above + 1 == i

-- the node at i stands in the box of the one before it, which is right above it: it is the only one there, and has others below it
abbrev pub shares : List ℕ → ℕ → Node → Bool
shares counts i node = is_behind node.above i && ((slice_index counts (i - 1) == 1) && nat_lt 0 (slice_index counts i))

-- what is in a box after its first node
abbrev pub label_behind : List ℕ → ℕ → List Node → List ℕ
label_behind counts i [] = []
label_behind counts i (node ∷ nodes) = if shares counts i node then dot ++ (short_label node.label ++ label_behind counts (i + 1) nodes) else []

abbrev pub box_label : List ℕ → ℕ → Node → List Node → List ℕ
box_label counts i node nodes = short_label node.label ++ label_behind counts (i + 1) nodes

-- the text of each box
abbrev pub labels_from : List ℕ → ℕ → List Node → List (List ℕ)
labels_from counts i [] = []
labels_from counts i (node ∷ nodes) =
    if shares counts i node then labels_from counts (i + 1) nodes else box_label counts i node nodes ∷ labels_from counts (i + 1) nodes

-- how many boxes there are with a node, by those before it
abbrev pub boxes_with : List ℕ → ℕ → (boxes : ℕ) → Node → ℕ
boxes_with counts i boxes node = if shares counts i node then boxes else boxes + 1

-- the box that each node stands in
abbrev pub places_from : List ℕ → ℕ → (boxes : ℕ) → List Node → List ℕ
places_from counts i boxes [] = []
places_from counts i boxes (node ∷ nodes) = (boxes_with counts i boxes node - 1) ∷ places_from counts (i + 1) (boxes_with counts i boxes node) nodes

abbrev pub place_of : List ℕ → Option ℕ → Option ℕ
place_of places None = None
place_of places (Some node) = slice_get places node

-- the box right above each box
abbrev pub aboves_from : List ℕ → List ℕ → ℕ → List Node → List (Option ℕ)
aboves_from counts places i [] = []
aboves_from counts places i (node ∷ nodes) =
    if shares counts i node then aboves_from counts places (i + 1) nodes else place_of places node.above ∷ aboves_from counts places (i + 1) nodes

abbrev pub places_of : List Node → List ℕ
places_of nodes = places_from (counts_of nodes) 0 0 nodes

-- the boxes of the nodes: their texts, and the box right above each
pub record AreBoxes (nodes : List Node) (labels : List (List ℕ)) (aboves : List (Option ℕ)) : Type 0 where
  pub labels_are : labels ≡ labels_from (counts_of nodes) 0 nodes
  pub aboves_are : aboves ≡ aboves_from (counts_of nodes) (places_of nodes) 0 nodes

-- the one right above each comes before it
abbrev pub AreBefore : List (Option ℕ) → Type 0
AreBefore aboves = (i above : ℕ) → slice_index_or aboves i None ≡ Some above → above < i

-- the text is a picture of the boxes of the nodes, each of which has its place
pub record IsDrawing (nodes : List Node) (text : List ℕ) : Type 0 where
  pub labels : List (List ℕ)
  pub aboves : List (Option ℕ)
  pub tiles : List Tile
  pub boxes : AreBoxes nodes labels aboves
  pub before : AreNested nodes → AreBefore aboves
  pub placed : ArePlaced tiles (map width_for labels) aboves
  pub picture : IsPicture tiles labels aboves text

pub record AddsDrawing (nodes : List Node) (old new : List ℕ) : Type 0 where
  pub text : List ℕ
  pub drawing : IsDrawing nodes text
  pub is : new ≡ old ++ text
