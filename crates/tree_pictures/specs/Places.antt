-- Where the boxes of a picture stand.
use Rattle.std.specs.Prelude.{ℕ, ◌+◌, ◌*◌, ◌/◌, ◌-◌, ◌^◌, ◌<◌, ◌≤◌, ◌≡◌, min, List, length, map, take, slice_get, slice_index_or, All, AllPairs, Option, Some, None}
use Rattle.std.specs.Str.{chars}
use Rattle.tree_pictures.specs.declared.places.Tile.{Tile}

-- what a text needs: 9 for each character and 14 more, or the greatest number of 64 bits
abbrev pub width_for : List ℕ → ℕ
width_for label = min (length (chars label) * 9 + 14) (2 ^ 64 - 1)

abbrev pub right : Tile → ℕ
right tile = tile.left + tile.width

abbrev pub under : Option Tile → ℕ
under None = 0
under (Some tile) = tile.row + 1

-- the row under that box, if it is one of these, and else the first row
abbrev pub row_under : List Tile → Option ℕ → ℕ
row_under tiles None = 0
row_under tiles (Some above) = under (slice_get tiles above)

-- each stands in the row under that of the box right above it, where that comes before it, and else in the first row
abbrev pub AreInRows : List Tile → List (Option ℕ) → Type 0
AreInRows tiles aboves = (i : ℕ) (d : Tile) → i < length tiles → (slice_index_or tiles i d).row ≡ row_under (take i tiles) (slice_index_or aboves i None)

-- where two stand in one row, the second begins at least ten after the end of the first
abbrev pub StandsAfter : Tile → Tile → Type 0
StandsAfter first second = first.row ≡ second.row → right first + 10 ≤ second.left

-- the places of boxes of these widths, below these boxes
pub record ArePlaced (tiles : List Tile) (widths : List ℕ) (aboves : List (Option ℕ)) : Type 0 where
  pub wide : map (λ (tile : Tile). tile.width) tiles ≡ widths
  pub rows : AreInRows tiles aboves
  pub margins : All (λ tile. 10 ≤ tile.left) tiles
  pub middles : All (λ tile. tile.middle ≡ tile.left + tile.width / 2) tiles
  pub apart : AllPairs StandsAfter tiles
