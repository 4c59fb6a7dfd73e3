-- The least size that is enough for each box.
use Rattle.std.proofs.Common.{◌≡◌, ℕ, ◌+◌, ◌<◌, ◌≤◌, max, List, [], ◌∷◌, ◌++◌, length, get_or, take, subst, arith, length-append}
use Rattle.std.specs.List.{All}
use Rattle.std.proofs.lemmas.List.{take_all, take_more, get_or_append_left}
use Rattle.std.proofs.Math.Seq.{get_or-append_seam}
use Rattle.std.proofs.lemmas.List.Elements.{All-more, All-weaker}
use Rattle.tree_pictures.specs.declared.places.Tile.{Tile}
use Rattle.tree_pictures.specs.Pictures.{IsLeast}

all_before : (P : Tile → Type 0) (tiles : List Tile) (tile : Tile) → All P (tiles ++ tile ∷ []) → All P tiles
all_before P tiles tile all k d lt =
    let long : length (tiles ++ tile ∷ []) ≡ length tiles + 1 = length-append tiles (tile ∷ []) in
    subst P (get_or_append_left tiles (tile ∷ []) d k lt) (all k d (omega arith))

last_too : (P : Tile → Type 0) (tiles : List Tile) (tile : Tile) → All P (tiles ++ tile ∷ []) → P tile
last_too P tiles tile all =
    let long : length (tiles ++ tile ∷ []) ≡ length tiles + 1 = length-append tiles (tile ∷ []) in
    subst P (get_or-append_seam tiles tile [] tile) (all (length tiles) tile (omega arith))

pub least_none : (needs : Tile → ℕ) (tiles : List Tile) → IsLeast needs (take 0 tiles) 0
least_none needs tiles = record { enough = λ k d lt. absurd (omega arith); least = λ other all. omega arith }

pub least_more : (needs : Tile → ℕ) (tiles : List Tile) (i old new : ℕ) (d : Tile) → i < length tiles → new ≡ max old (needs (get_or tiles i d)) →
    IsLeast needs (take i tiles) old → IsLeast needs (take (i + 1) tiles) new
least_more needs tiles i old new d lt e least = record {
  enough = All-more (λ t. needs t ≤ new) tiles i d lt
      (All-weaker (λ t. needs t ≤ old) (λ t. needs t ≤ new) (λ t le. omega arith) (take i tiles) least.enough) (omega arith);
  least = λ other all.
      let parts : All (λ t. needs t ≤ other) (take i tiles ++ get_or tiles i d ∷ []) =
      subst (λ ts. All (λ t. needs t ≤ other) ts) (take_more tiles i d lt) all in
      let before : old ≤ other = least.least other (all_before (λ t. needs t ≤ other) (take i tiles) (get_or tiles i d) parts) in
      let here : needs (get_or tiles i d) ≤ other = last_too (λ t. needs t ≤ other) (take i tiles) (get_or tiles i d) parts in
      omega arith;
}

pub least_all : (needs : Tile → ℕ) (tiles : List Tile) (i size : ℕ) → length tiles ≤ i → IsLeast needs (take i tiles) size → IsLeast needs tiles size
least_all needs tiles i size past least = subst (λ ts. IsLeast needs ts size) (take_all i tiles past) least
