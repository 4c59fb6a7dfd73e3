-- Rows made of sorted keys.
use Rattle.std.proofs.Common.{◌≡◌, ◌≢◌, ℕ, zero, suc, ◌+◌, ◌<◌, ◌↔◌, List, [], ◌∷◌, length, map, Contains, refl, sym, ◌∙◌, ap, subst, arith}
use Rattle.std.specs.Prelude.{slice_index_or}
use Rattle.std.specs.Ordering.{is_lt}
use Rattle.std.specs.List.{AllPairs}
use Rattle.std.specs.List.Sorted.{IsPermutation, IsSorted}
use Rattle.std.proofs.lemmas.List.{get_or-map}
use Rattle.std.proofs.lemmas.List.Sorted.{Contains-permutation, IsPermutation-sym, IsPermutation-map}
use Rattle.recognizer_model.specs.declared.Item.{Item}
use Rattle.recognizer_model.specs.Flat.{FlatGrammar}
use Rattle.item_rows.specs.declared.order.RowKey.{RowKey}
use Rattle.item_rows.specs.Order.{row_key, item_of, key_cmp, IsInOrder}
use Rattle.item_rows.proofs.Items.{once_permuted}

items_back : (g : FlatGrammar) (items : List Item) → map item_of (map (row_key g) items) ≡ items
items_back g [] = refl
items_back g (x ∷ xs) = ap (λ l. x ∷ l) (items_back g xs)

-- a key that was made of an item is that of its item
made_key : (g : FlatGrammar) (items : List Item) (k : ℕ) (d : Item) → k < length (map (row_key g) items) →
    row_key g (item_of (slice_index_or (map (row_key g) items) k (row_key g d))) ≡ slice_index_or (map (row_key g) items) k (row_key g d)
made_key g [] k d lt = absurd (omega arith)
made_key g (x ∷ xs) zero d lt = refl
made_key g (x ∷ xs) (suc k) d lt = made_key g xs k d (omega arith)

module _ (g : FlatGrammar) (items : List Item) (keys sorted : List RowKey) (row : List Item)
    (made : keys ≡ map (row_key g) items) (moved : IsPermutation keys sorted) (order : IsSorted key_cmp sorted) (is : row ≡ map item_of sorted) where
  permuted : IsPermutation items row
  permuted =
      subst (IsPermutation items) (sym is)
      (subst (λ (l : List Item). IsPermutation l (map item_of sorted)) (ap (map item_of) made ∙ items_back g items) (IsPermutation-map item_of keys sorted moved))

  kept : (key : RowKey) → Contains sorted key → row_key g (item_of key) ≡ key
  kept key h =
      let (k, lt, e) = subst (λ (l : List RowKey). Contains l key) made (Contains-permutation sorted keys key (IsPermutation-sym keys sorted moved) h) in
      let d : Item = item_of key in
      let same : slice_index_or (map (row_key g) items) k (row_key g d) ≡ key = sym (get_or-any (map (row_key g) items) k key (row_key g d) lt) ∙ e in
      ap (λ z. row_key g (item_of z)) (sym same) ∙ (made_key g items k d lt ∙ same)
    where
      get_or-any : (xs : List RowKey) (k : ℕ) (d e : RowKey) → k < length xs → slice_index_or xs k d ≡ slice_index_or xs k e
      get_or-any [] k d e lt = absurd (omega arith)
      get_or-any (x ∷ xs) zero d e lt = refl
      get_or-any (x ∷ xs) (suc k) d e lt = get_or-any xs k d e (omega arith)

  key_at : (k : ℕ) (d : Item) → k < length sorted → row_key g (slice_index_or (map item_of sorted) k d) ≡ slice_index_or sorted k (row_key g d)
  key_at k d lt = ap (row_key g) (get_or-map item_of sorted k (row_key g d) d lt) ∙ kept (slice_index_or sorted k (row_key g d)) (there sorted k (row_key g d) lt)
    where
      there : (xs : List RowKey) (k : ℕ) (d : RowKey) → k < length xs → Contains xs (slice_index_or xs k d)
      there [] k d lt = absurd (omega arith)
      there (x ∷ xs) zero d lt = (0, omega arith, refl)
      there (x ∷ xs) (suc k) d lt = let (i, below, e) = there xs k d (omega arith) in (suc i, omega arith, e)

  pub sorted_order : IsInOrder g row
  sorted_order =
      subst (IsInOrder g) (sym is)
      (λ k d le lt.
      let n = length-mapped sorted in
      ap (λ z. is_lt (key_cmp z (row_key g (slice_index_or (map item_of sorted) k d)))) (key_at (k + 1) d (omega arith))
      ∙ (ap (λ z. is_lt (key_cmp (slice_index_or sorted (k + 1) (row_key g d)) z)) (key_at k d (omega arith)) ∙ order k (row_key g d) le (omega arith)))
    where
      length-mapped : (xs : List RowKey) → length (map item_of xs) ≡ length xs
      length-mapped [] = refl
      length-mapped (x ∷ xs) = ap suc (length-mapped xs)

  pub sorted_same : (item : Item) → Contains row item ↔ Contains items item
  sorted_same item = (Contains-permutation row items item (IsPermutation-sym items row permuted), Contains-permutation items row item permuted)

  pub sorted_once : AllPairs (λ x y. x ≢ y) items → AllPairs (λ x y. x ≢ y) row
  sorted_once once = once_permuted items row permuted once
