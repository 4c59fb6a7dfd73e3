-- Rows of what was brought back: they tell the same where more is put after what they tell of.
use Rattle.std.proofs.Common.{◌≡◌, inl, inr, ◌↔◌, ℕ, zero, suc, ◌-◌, ◌<◌, ◌≤◌, List, [], ◌∷◌, ◌++◌, length, map, take, drop, get_or, Contains, true, false, true≢false, Some, slice_get, refl, sym, ◌∙◌, ap, subst, arith}
use Rattle.std.specs.Prelude.{AllPairs, nat_lt}
use Rattle.std.specs.List.Sorted.{IsPartitionedBy}
use Rattle.std.proofs.lemmas.Bool.{cases_lt, ltb-true, lt-ltb}
use Rattle.std.proofs.lemmas.List.{length-append, length-drop, take-append-le, drop-append-le, take_all, map-append, length-map, get_or-map}
use Rattle.std.proofs.Math.Seq.{drop-append_seam}
use Rattle.std.proofs.lemmas.List.Elements.{Contains-append_cases}
use Rattle.std.proofs.lemmas.List.Quantifiers.{all_pairs_push}
use Rattle.std.proofs.lemmas.Option.{slice_get-get_or}
use Rattle.finite_sets.proofs.Lists.{Contains-none, Contains-map}
use Rattle.recognizer_model.specs.declared.Item.{Item}
use Rattle.earley_sets.proofs.Membership.{Contains-cons_cases, Contains-first, Contains-rest, Contains-map_from}
use Rattle.forest_parts.specs.Lists.{between}
use Rattle.forest_parts.specs.declared.given.GivenRow.{GivenRow}
use Rattle.forest_parts.specs.Given.{GivenAt, AreFalling, given_at, IsRow, AreRows}

module _ {A : Type 0} (xs more : List A) where
  between_kept : (first past : ℕ) → first ≤ past → past ≤ length xs → between first past (xs ++ more) ≡ between first past xs
  between_kept first past order bound =
      let l = length-drop first xs in
      ap (take (past - first)) (drop-append-le first xs more (omega arith)) ∙ take-append-le (past - first) (drop first xs) more (omega arith)

  between_new : between (length xs) (length (xs ++ more)) (xs ++ more) ≡ more
  between_new =
      let l = length-append xs more in
      ap (take (length (xs ++ more) - length xs)) (drop-append_seam xs more) ∙ take_all (length (xs ++ more) - length xs) more (omega arith)

map_same : {X Y : Type 0} (f g : X → Y) (xs : List X) → ((x : X) → Contains xs x → f x ≡ g x) → map f xs ≡ map g xs
map_same f g [] same = refl
map_same {Y = Y} f g (x ∷ xs) same =
    ap (λ (y : Y). y ∷ map f xs) (same x (Contains-first x xs)) ∙ ap (λ (l : List Y). g x ∷ l) (map_same f g xs (λ z h. same z (Contains-rest x xs z h)))

get_same : {X : Type 0} (xs : List X) (k : ℕ) (d e : X) → k < length xs → get_or xs k d ≡ get_or xs k e
get_same [] k d e lt = absurd (omega arith)
get_same (x ∷ xs) zero d e lt = refl
get_same (x ∷ xs) (suc k) d e lt = get_same xs k d e (omega arith)

-- A ROW MORE

module _ (tops items more_tops more_items : List Item) where
  row_kept : (row : GivenRow) → IsRow tops items row → given_at (tops ++ more_tops) (items ++ more_items) row ≡ given_at tops items row
  row_kept row is = λ i. record {
    place = row.place;
    tops = between_kept tops more_tops row.first_top row.past_top is.tops_order is.tops_bound i;
    items = between_kept items more_items row.first_item row.past_item is.items_order is.items_bound i;
  }

  pub told_kept : (rows : List GivenRow) → AreRows tops items rows → map (given_at (tops ++ more_tops) (items ++ more_items)) rows ≡ map (given_at tops items) rows
  told_kept rows are = map_same (given_at (tops ++ more_tops) (items ++ more_items)) (given_at tops items) rows (λ row h. row_kept row (are.are row h))

  pub rows_kept : (rows : List GivenRow) → AreRows tops items rows → AreRows (tops ++ more_tops) (items ++ more_items) rows
  rows_kept rows are = record {
    are = λ row h. (
        let is = are.are row h in
        let l = length-append tops more_tops in
        let l' = length-append items more_items in
        let a = is.tops_bound in
        let b = is.items_bound in
        record { tops_order = is.tops_order; tops_bound = omega arith; items_order = is.items_order; items_bound = omega arith }
        );
    falls = are.falls;
  }

  -- the row of what was put last
  abbrev row_new : (place : ℕ) → GivenRow
  row_new place = record { place = place; first_top = length tops; past_top = length (tops ++ more_tops); first_item = length items; past_item = length (items ++ more_items) }

  module _ (place : ℕ) (rows : List GivenRow) (are : AreRows tops items rows) where
    pub rows_more : ((row : GivenRow) → Contains rows row → place < row.place) → AreRows (tops ++ more_tops) (items ++ more_items) (rows ++ row_new place ∷ [])
    rows_more falls = record {
      are = λ row h. elim (Contains-append_cases rows (row_new place ∷ []) row h) [
        | inl old ↦ (rows_kept rows are).are row old
        | inr new ↦ elim (Contains-cons_cases (row_new place) [] row new) [
          | inl e ↦ subst (IsRow (tops ++ more_tops) (items ++ more_items)) e (
              let l = length-append tops more_tops in
              let l' = length-append items more_items in
              record { tops_order = omega arith; tops_bound = omega arith; items_order = omega arith; items_bound = omega arith }
              )
          | inr n ↦ absurd (Contains-none row n)
        ]
      ];
      falls = all_pairs_push (λ (row later : GivenRow). later.place < row.place) rows (row_new place) are.falls (λ k d lt. falls (get_or rows k d) (k, lt, get_same rows k (get_or rows k d) d lt));
    }

    pub told_more : map (given_at (tops ++ more_tops) (items ++ more_items)) (rows ++ row_new place ∷ []) ≡ map (given_at tops items) rows ++ record { place = place; tops = more_tops; items = more_items } ∷ []
    told_more =
        map-append (given_at (tops ++ more_tops) (items ++ more_items)) rows (row_new place ∷ [])
        ∙ ap (λ l. l ++ given_at (tops ++ more_tops) (items ++ more_items) (row_new place) ∷ []) (told_kept rows are)
        ∙ ap (λ (e : GivenAt). map (given_at tops items) rows ++ e ∷ []) (λ i. record { place = place; tops = between_new tops more_tops i; items = between_new items more_items i })

-- THE SAME, BY WHAT CALLS ENSURE

module _ (tops items : List Item) (rows : List GivenRow) (are : AreRows tops items rows) where
  abbrev Tells : (tops' items' : List Item) (rows' : List GivenRow) → List GivenAt → Type 0
  Tells tops' items' rows' told = AreRows tops' items' rows' × (map (given_at tops' items') rows' ≡ told)

  pub kept_by : (tops' items' t i : List Item) → tops' ≡ tops ++ t → items' ≡ items ++ i → Tells tops' items' rows (map (given_at tops items) rows)
  kept_by tops' items' t i e e' =
      subst (λ l. Tells l items' rows (map (given_at tops items) rows)) (sym e)
      (subst (λ l. Tells (tops ++ t) l rows (map (given_at tops items) rows)) (sym e') (rows_kept tops items t i rows are, told_kept tops items t i rows are))

  pub more_by : (place : ℕ) → ((row : GivenRow) → Contains rows row → place < row.place) → (tops' items' t i : List Item) → tops' ≡ tops ++ t → items' ≡ items ++ i → (row : GivenRow) → row.place ≡ place → row.first_top ≡ length tops → row.past_top ≡ length tops' → row.first_item ≡ length items → row.past_item ≡ length items' → (rows' : List GivenRow) → rows' ≡ rows ++ row ∷ [] →
      Tells tops' items' rows' (map (given_at tops items) rows ++ record { place = place; tops = t; items = i } ∷ [])
  more_by place falls tops' items' t i e e' row p a b a' b' rows' q =
      let same : row ≡ row_new tops items t i place = λ j. record { place = p j; first_top = a j; past_top = (b ∙ ap (λ (l : List Item). length l) e) j; first_item = a' j; past_item = (b' ∙ ap (λ (l : List Item). length l) e') j } in
      let all = map (given_at tops items) rows ++ record { place = place; tops = t; items = i } ∷ [] in
      subst (λ l. Tells l items' rows' all) (sym e)
      (subst (λ l. Tells (tops ++ t) l rows' all) (sym e')
      (subst (λ l. Tells (tops ++ t) (items ++ i) l all) (sym (q ∙ ap (λ (z : GivenRow). rows ++ z ∷ []) same)) (rows_more tops items t i place rows are falls, told_more tops items t i place rows are)))

-- LOOKING ONE UP

pub held_at : {X : Type 0} (xs : List X) (k : ℕ) (x : X) → k < length xs → get_or xs k x ≡ x → slice_get xs k ≡ Some x
held_at xs k x lt e = slice_get-get_or xs k x lt ∙ ap Some e

pub not_below : (m n : ℕ) → nat_lt m n ≡ false → n ≤ m
not_below m n e = elim (cases_lt m n) [ inl lt ↦ absurd (true≢false (sym (lt-ltb m n lt) ∙ e)) | inr ge ↦ ge ]

module _ (rows : List GivenRow) (falls : AllPairs (λ (row later : GivenRow). later.place < row.place) rows) where
  pub later_parted : (place : ℕ) → IsPartitionedBy (λ (row : GivenRow). nat_lt place row.place) rows
  later_parted place i j d le lt e = elim (cases_lt i j) [
    | inl below ↦ (let f = falls i j d below lt in let l = ltb-true _ _ e in lt-ltb _ _ (omega arith))
    | inr ge ↦ (let same : i ≡ j = omega arith in subst (λ k. nat_lt place (get_or rows k d).place ≡ true) (sym same) e)
  ]

  -- a place has one row
  row_one : (a b : GivenRow) → Contains rows a → Contains rows b → a.place ≡ b.place → a ≡ b
  row_one a b (i, lt, e) (j, lt', e') same = elim (cases_lt i j) [
    | inl below ↦ (
        let f = falls i j a below lt' in
        let p = ap (λ (z : GivenRow). z.place) e in
        let q = ap (λ (z : GivenRow). z.place) (get_same rows j a b lt' ∙ e') in
        absurd (omega arith)
        )
    | inr ge ↦ elim (cases_lt j i) [
      | inl below ↦ (
          let f = falls j i b below lt in
          let p = ap (λ (z : GivenRow). z.place) (get_same rows i b a lt ∙ e) in
          let q = ap (λ (z : GivenRow). z.place) e' in
          absurd (omega arith)
          )
      | inr le ↦ (let k : i ≡ j = omega arith in sym e ∙ (ap (λ n. get_or rows n a) k ∙ (get_same rows j a b lt' ∙ e')))
    ]
  ]

  -- where the first row that is not of a later place is of another, none is of the place
  pub none_there : (place k : ℕ) (row : GivenRow) → k < length rows → get_or rows k row ≡ row → ((i : ℕ) (x : GivenRow) → i < k → slice_get rows i ≡ Some x → place < x.place) → row.place ≤ place → ¬ (row.place ≡ place) → (x : GivenRow) → Contains rows x → x.place ≡ place → ⊥
  none_there place k row below is later le other x (i, lt, e) same =
      let held : slice_get rows i ≡ Some x = held_at rows i x lt e in
      let p = ap (λ (z : GivenRow). z.place) e in
      let q = ap (λ (z : GivenRow). z.place) is in
      elim (cases_lt i k) [
        | inl before ↦ (let l = later i x before held in absurd (omega arith))
        | inr ge ↦ elim (cases_lt k i) [
          | inl after ↦ (let f = falls k i row after lt in let v = ap (λ (z : GivenRow). z.place) (get_same rows i row x lt) in absurd (omega arith))
          | inr back ↦ (let n : i ≡ k = omega arith in absurd (other (sym q ∙ (ap (λ (z : GivenRow). z.place) (get_same rows k row x below) ∙ (ap (λ m. (get_or rows m x).place) (sym n) ∙ (p ∙ same))))))
        ]
      ]

  pub told_one : (tops items : List Item) (row : GivenRow) → Contains rows row → (e : GivenAt) → (Contains (map (given_at tops items) rows) e × (e.place ≡ row.place)) ↔ (e ≡ given_at tops items row)
  told_one tops items row h e = (
    λ (there, same). (
        let (other, held, is) = Contains-map_from (given_at tops items) rows e there in
        is ∙ ap (given_at tops items) (row_one other row held h (sym (ap (λ (z : GivenAt). z.place) is) ∙ same))
        ),
    λ is. (subst (Contains (map (given_at tops items) rows)) (sym is) (Contains-map (given_at tops items) rows row h), ap (λ (z : GivenAt). z.place) is),
  )

  pub told_falling : (tops items : List Item) → AreFalling (map (given_at tops items) rows)
  told_falling tops items i j d lt below =
      let l = length-map rows (given_at tops items) in
      let a = ap (λ (z : GivenAt). z.place) (get_or-map (given_at tops items) rows i no_row d (omega arith)) in
      let b = ap (λ (z : GivenAt). z.place) (get_or-map (given_at tops items) rows j no_row d (omega arith)) in
      let f = falls i j no_row lt (omega arith) in
      omega arith
    where
      no_row : GivenRow
      no_row = record { place = 0; first_top = 0; past_top = 0; first_item = 0; past_item = 0 }
