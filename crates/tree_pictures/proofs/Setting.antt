-- Boxes that are set one after another, each after the last one of its row.
use Rattle.std.proofs.Common.{◌≡◌, ◌≢◌, ℕ, ◌+◌, ◌*◌, ◌/◌, ◌^◌, ◌<◌, ◌≤◌, max, inl, inr, Option, None, List, [], ◌∷◌, ◌++◌, length, get_or, take, set, map, sym, ap, ◌∙◌, subst, arith, length-append}
use Rattle.std.specs.List.{All, AllPairs}
use Rattle.std.proofs.Math.ListN.{length-set}
use Rattle.std.proofs.Math.Seq.{get_or-append_seam}
use Rattle.std.proofs.lemmas.Bool.{cases_lt, cases_order}
use Rattle.std.proofs.lemmas.List.{get_or_append_left, get_or-set_same, get_or-set_other, take-append-le, take_all, take_more, map-append}
use Rattle.std.proofs.lemmas.List.Elements.{All-push, All-set}
use Rattle.std.proofs.lemmas.List.Quantifiers.{all_pairs_push}
use Rattle.tree_pictures.specs.declared.places.Tile.{Tile}
use Rattle.tree_pictures.specs.Places.{right, row_under, AreInRows, StandsAfter, ArePlaced}

-- the first boxes are set, and of each row it is told where the last one ends
pub record IsSetting (tiles : List Tile) (ends widths : List ℕ) (aboves : List (Option ℕ)) (i : ℕ) : Type 0 where
  pub each : length tiles ≡ i
  pub places : length ends ≡ length widths
  pub placed : ArePlaced tiles (take i widths) aboves
  pub low : All (λ tile. tile.row < length tiles) tiles
  pub ended : All (λ tile. right tile ≤ get_or ends tile.row 0) tiles
  pub room : All (λ end. end ≤ (i + 1) * (2 ^ 64 + 16)) ends

-- the next box
pub record IsNext (tile : Tile) (tiles : List Tile) (ends : List ℕ) (width wanted : ℕ) (above : Option ℕ) : Type 0 where
  pub row : tile.row ≡ row_under tiles above
  pub low : tile.row ≤ length tiles
  pub wide : tile.width ≡ width
  pub left : tile.left ≡ max wanted (get_or ends tile.row 0 + 10)
  pub middle : tile.middle ≡ tile.left + tile.width / 2
  pub near : wanted < 2 ^ 64
  pub narrow : width < 2 ^ 64

-- ---- the next box is set

row_there : (tiles : List Tile) (tile : Tile) (aboves : List (Option ℕ)) (i : ℕ) (d : Tile) → i ≡ length tiles →
    tile.row ≡ row_under tiles (get_or aboves i None) →
    (get_or (tiles ++ tile ∷ []) i d).row ≡ row_under (take i (tiles ++ tile ∷ [])) (get_or aboves i None)
row_there tiles tile aboves i d last e =
    let here : get_or (tiles ++ tile ∷ []) i d ≡ tile = ap (λ k. get_or (tiles ++ tile ∷ []) k d) last ∙ get_or-append_seam tiles tile [] d in
    let before : take i (tiles ++ tile ∷ []) ≡ tiles = take-append-le i tiles (tile ∷ []) (omega arith) ∙ take_all i tiles (omega arith) in
    ap (λ (t : Tile). t.row) here ∙ e ∙ ap (λ ts. row_under ts (get_or aboves i None)) (sym before)

row_before : (tiles : List Tile) (tile : Tile) (aboves : List (Option ℕ)) (i : ℕ) (d : Tile) → i < length tiles →
    (get_or tiles i d).row ≡ row_under (take i tiles) (get_or aboves i None) →
    (get_or (tiles ++ tile ∷ []) i d).row ≡ row_under (take i (tiles ++ tile ∷ [])) (get_or aboves i None)
row_before tiles tile aboves i d lt e =
    ap (λ (t : Tile). t.row) (get_or_append_left tiles (tile ∷ []) d i lt) ∙ e
    ∙ ap (λ ts. row_under ts (get_or aboves i None)) (sym (take-append-le i tiles (tile ∷ []) (omega arith)))

rows_more : (tiles : List Tile) (tile : Tile) (aboves : List (Option ℕ)) → AreInRows tiles aboves →
    tile.row ≡ row_under tiles (get_or aboves (length tiles) None) → AreInRows (tiles ++ tile ∷ []) aboves
rows_more tiles tile aboves rows e i d lt =
    let long : length (tiles ++ tile ∷ []) ≡ length tiles + 1 = length-append tiles (tile ∷ []) in
    elim (cases_lt i (length tiles)) [
      | inl less ↦ row_before tiles tile aboves i d less (rows i d less)
      | inr past ↦ (let last : i ≡ length tiles = omega arith in
          row_there tiles tile aboves i d last (e ∙ ap (λ k. row_under tiles (get_or aboves k None)) (sym last)))
    ]

end_kept : (ends : List ℕ) (row k end old : ℕ) → row < length ends → old ≤ get_or ends k 0 → get_or ends row 0 ≤ end → old ≤ get_or (set ends row end) k 0
end_kept ends row k end old within below past =
    elim (cases_order k row) [
      | inl same ↦ (let e : get_or (set ends row end) k 0 ≡ end = ap (λ n. get_or (set ends row end) n 0) same ∙ get_or-set_same ends row end 0 within in
          let f : get_or ends k 0 ≡ get_or ends row 0 = ap (λ n. get_or ends n 0) same in omega arith)
      | inr other ↦ (let differ : k ≢ row = λ e. elim other [ inl less ↦ omega arith | inr more ↦ omega arith ] in
          let e : get_or (set ends row end) k 0 ≡ get_or ends k 0 = get_or-set_other ends row k end 0 differ in omega arith)
    ]

ended_more : (tiles : List Tile) (tile : Tile) (ends : List ℕ) → tile.row < length ends → get_or ends tile.row 0 ≤ right tile →
    All (λ (t : Tile). right t ≤ get_or ends t.row 0) tiles →
    All (λ (t : Tile). right t ≤ get_or (set ends tile.row (right tile)) t.row 0) (tiles ++ tile ∷ [])
ended_more tiles tile ends within past ended =
    All-push (λ (t : Tile). right t ≤ get_or (set ends tile.row (right tile)) t.row 0) tiles tile
    (λ k d lt. end_kept ends tile.row (get_or tiles k d).row (right tile) (right (get_or tiles k d)) within (ended k d lt) past)
    (let e : get_or (set ends tile.row (right tile)) tile.row 0 ≡ right tile = get_or-set_same ends tile.row (right tile) 0 within in omega arith)

apart_more : (tiles : List Tile) (tile : Tile) (ends : List ℕ) → get_or ends tile.row 0 + 10 ≤ tile.left →
    All (λ (t : Tile). right t ≤ get_or ends t.row 0) tiles → AllPairs StandsAfter tiles → AllPairs StandsAfter (tiles ++ tile ∷ [])
apart_more tiles tile ends past ended apart =
    all_pairs_push StandsAfter tiles tile apart
    (λ k d lt same.
    let e : get_or ends (get_or tiles k d).row 0 ≡ get_or ends tile.row 0 = ap (λ n. get_or ends n 0) same in
    let old : right (get_or tiles k d) ≤ get_or ends (get_or tiles k d).row 0 = ended k d lt in
    omega arith)

wide_more : (tiles : List Tile) (tile : Tile) (widths : List ℕ) (i : ℕ) → i < length widths → tile.width ≡ get_or widths i 0 →
    map (λ (t : Tile). t.width) tiles ≡ take i widths → map (λ (t : Tile). t.width) (tiles ++ tile ∷ []) ≡ take (i + 1) widths
wide_more tiles tile widths i within e wide =
    map-append (λ (t : Tile). t.width) tiles (tile ∷ []) ∙ ap (λ ws. ws ++ tile.width ∷ []) wide
    ∙ ap (λ w. take i widths ++ w ∷ []) e ∙ sym (take_more widths i 0 within)

low_more : (tiles : List Tile) (tile : Tile) → tile.row ≤ length tiles → All (λ (t : Tile). t.row < length tiles) tiles →
    All (λ (t : Tile). t.row < length (tiles ++ tile ∷ [])) (tiles ++ tile ∷ [])
low_more tiles tile few low =
    let long : length (tiles ++ tile ∷ []) ≡ length tiles + 1 = length-append tiles (tile ∷ []) in
    All-push (λ (t : Tile). t.row < length (tiles ++ tile ∷ [])) tiles tile
    (λ k d lt. let old : (get_or tiles k d).row < length tiles = low k d lt in omega arith)
    (omega arith)

room_more : (ends : List ℕ) (row end i : ℕ) → end ≤ (i + 1 + 1) * (2 ^ 64 + 16) → All (λ e. e ≤ (i + 1) * (2 ^ 64 + 16)) ends →
    All (λ e. e ≤ (i + 1 + 1) * (2 ^ 64 + 16)) (set ends row end)
room_more ends row end i near room =
    All-set (λ e. e ≤ (i + 1 + 1) * (2 ^ 64 + 16)) ends row end near
    (λ k d lt. let old : get_or ends k d ≤ (i + 1) * (2 ^ 64 + 16) = room k d lt in omega arith)

placed_more : (tiles : List Tile) (ends widths : List ℕ) (aboves : List (Option ℕ)) (i wanted : ℕ) (tile : Tile) → i < length widths →
    IsSetting tiles ends widths aboves i → IsNext tile tiles ends (get_or widths i 0) wanted (get_or aboves i None) →
    ArePlaced (tiles ++ tile ∷ []) (take (i + 1) widths) aboves
placed_more tiles ends widths aboves i wanted tile within before next = record {
  wide = wide_more tiles tile widths i within next.wide before.placed.wide;
  rows = rows_more tiles tile aboves before.placed.rows (next.row ∙ ap (λ k. row_under tiles (get_or aboves k None)) (sym before.each));
  margins = All-push (λ (t : Tile). 10 ≤ t.left) tiles tile before.placed.margins (let e = next.left in omega arith);
  middles = All-push (λ (t : Tile). t.middle ≡ t.left + t.width / 2) tiles tile before.placed.middles next.middle;
  apart = apart_more tiles tile ends (let e = next.left in omega arith) before.ended before.placed.apart;
}

pub setting_more : (tiles : List Tile) (ends widths : List ℕ) (aboves : List (Option ℕ)) (i wanted : ℕ) (tile : Tile) → i < length widths →
    IsSetting tiles ends widths aboves i → IsNext tile tiles ends (get_or widths i 0) wanted (get_or aboves i None) →
    IsSetting (tiles ++ tile ∷ []) (set ends tile.row (right tile)) widths aboves (i + 1)
setting_more tiles ends widths aboves i wanted tile within before next =
    let row_in : tile.row < length ends = omega (arith, next.low, before.each, before.places) in
    let end : get_or ends tile.row 0 ≤ (i + 1) * (2 ^ 64 + 16) = before.room tile.row 0 row_in in
    let left : tile.left ≡ max wanted (get_or ends tile.row 0 + 10) = next.left in
    let wide : tile.width < 2 ^ 64 = omega (arith, next.wide, next.narrow) in
    let near : right tile ≤ (i + 1 + 1) * (2 ^ 64 + 16) = omega (arith, next.near) in
    record {
      each = length-append tiles (tile ∷ []) ∙ ap (λ n. n + 1) before.each;
      places = length-set ends tile.row (right tile) ∙ before.places;
      placed = placed_more tiles ends widths aboves i wanted tile within before next;
      low = low_more tiles tile next.low before.low;
      ended = ended_more tiles tile ends row_in (omega arith) before.ended;
      room = room_more ends tile.row (right tile) i near before.room;
    }

-- the same, where the row and the list have other names
pub setting_step : (tiles tiles' : List Tile) (ends widths : List ℕ) (aboves : List (Option ℕ)) (i wanted row : ℕ) (tile : Tile) → i < length widths →
    tile.row ≡ row → tiles' ≡ tiles ++ tile ∷ [] → IsSetting tiles ends widths aboves i →
    IsNext tile tiles ends (get_or widths i 0) wanted (get_or aboves i None) →
    IsSetting tiles' (set ends row (tile.left + tile.width)) widths aboves (i + 1)
setting_step tiles tiles' ends widths aboves i wanted row tile within r t before next =
    subst (λ ts. IsSetting ts (set ends row (right tile)) widths aboves (i + 1)) (sym t)
    (subst (λ n. IsSetting (tiles ++ tile ∷ []) (set ends n (right tile)) widths aboves (i + 1)) r
    (setting_more tiles ends widths aboves i wanted tile within before next))
