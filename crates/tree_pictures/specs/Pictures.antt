-- What is written of boxes that have their places: a line to each from the one above it, and then each box with its text.
use Rattle.std.specs.Prelude.{ℕ, ◌+◌, ◌≤◌, ◌*◌, ◌==◌, if◌then◌else◌, List, [], ◌∷◌, ◌++◌, ◌≡◌, slice_get, decimal, codes, All, Option, Some, None}
use Rattle.std.specs.Str.{chars}
use Rattle.std.specs.Char.{encode_utf8}
use Rattle.std.specs.List.{flat_map}
use Rattle.tree_pictures.specs.declared.places.Tile.{Tile}
use Rattle.tree_pictures.specs.Places.{right}

-- a character of a text, as pictures have it
abbrev pub escaped : ℕ → List ℕ
escaped c = if c == 38 then codes "&amp;" else (if c == 60 then codes "&lt;" else (if c == 62 then codes "&gt;" else encode_utf8 c))

abbrev pub escaped_text : List ℕ → List ℕ
escaped_text text = flat_map escaped (chars text)

-- where a row of boxes begins, each of which is 26 high
abbrev pub row_top : Tile → ℕ
row_top tile = tile.row * 52 + 10

-- from the middle of a box's lower side to that of another one's upper side
abbrev pub line_begin : Tile → List ℕ
line_begin tile = codes "<line x1=\"" ++ (decimal tile.middle ++ (codes "\" y1=\"" ++ decimal (row_top tile + 26)))

abbrev pub line_end : Tile → List ℕ
line_end tile = codes "\" x2=\"" ++ (decimal tile.middle ++ (codes "\" y2=\"" ++ (decimal (row_top tile) ++ codes "\" stroke=\"#888\"/>\n")))

abbrev pub line_from : Option Tile → Tile → List ℕ
line_from None tile = []
line_from (Some above) tile = line_begin above ++ line_end tile

abbrev pub edge : List Tile → Option ℕ → Tile → List ℕ
edge tiles None tile = []
edge tiles (Some above) tile = line_from (slice_get tiles above) tile

-- a line to each box from the one right above it
abbrev pub edges : List Tile → List (Option ℕ) → List Tile → List ℕ
edges tiles [] rest = []
edges tiles (above ∷ aboves) [] = []
edges tiles (above ∷ aboves) (tile ∷ rest) = edge tiles above tile ++ edges tiles aboves rest

abbrev pub frame_begin : Tile → List ℕ
frame_begin tile = codes "<rect x=\"" ++ (decimal tile.left ++ (codes "\" y=\"" ++ decimal (row_top tile)))

abbrev pub frame_end : Tile → List ℕ
frame_end tile = codes "\" width=\"" ++ (decimal tile.width ++ codes "\" height=\"26\" rx=\"4\" fill=\"#fff\" stroke=\"#888\"/>\n")

abbrev pub text_begin : Tile → List ℕ
text_begin tile = codes "<text x=\"" ++ (decimal tile.middle ++ (codes "\" y=\"" ++ decimal (row_top tile + 18)))

abbrev pub text_line : Tile → List ℕ → List ℕ
text_line tile label = text_begin tile ++ (codes "\" text-anchor=\"middle\">" ++ (escaped_text label ++ codes "</text>\n"))

abbrev pub box : Tile → List ℕ → List ℕ
box tile label = frame_begin tile ++ (frame_end tile ++ text_line tile label)

abbrev pub box_in : Option Tile → List ℕ → List ℕ
box_in None label = []
box_in (Some tile) label = box tile label

-- the boxes from a place on, by their texts
abbrev pub boxes : List Tile → ℕ → List (List ℕ) → List ℕ
boxes tiles i [] = []
boxes tiles i (label ∷ labels) = box_in (slice_get tiles i) label ++ boxes tiles (i + 1) labels

abbrev pub picture_head : ℕ → ℕ → List ℕ
picture_head width height =
    codes "<svg xmlns=\"http://www.w3.org/2000/svg\" width=\""
    ++ (decimal width ++ (codes "\" height=\"" ++ (decimal height ++ codes "\" font-family=\"monospace\" font-size=\"14\">\n<rect width=\"100%\" height=\"100%\" fill=\"#fff\"/>\n")))

abbrev pub bottom : Tile → ℕ
bottom tile = row_top tile + 26

-- enough for what each box needs, and nothing less is
pub record IsLeast (needs : Tile → ℕ) (tiles : List Tile) (size : ℕ) : Type 0 where
  pub enough : All (λ tile. needs tile ≤ size) tiles
  pub least : (other : ℕ) → All (λ tile. needs tile ≤ other) tiles → size ≤ other

-- the text is a picture of boxes at these places, with these texts, below these boxes, and as large as they need with a margin
pub record IsPicture (tiles : List Tile) (labels : List (List ℕ)) (aboves : List (Option ℕ)) (text : List ℕ) : Type 0 where
  pub width : ℕ
  pub height : ℕ
  pub wide : IsLeast (λ tile. right tile + 10) tiles width
  pub high : IsLeast (λ tile. bottom tile + 10) tiles height
  pub is : text ≡ picture_head width height ++ (edges tiles aboves tiles ++ (boxes tiles 0 labels ++ codes "</svg>\n"))
