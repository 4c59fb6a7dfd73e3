-- Items in order: those that wait for a symbol stand together, and an item is found by binary search.
use Rattle.std.proofs.Common.{◌≡◌, ◌⊎◌, inl, inr, ◌↔◌, ℕ, ◌+◌, ◌<◌, ◌≤◌, false, length, List, Option, Some, None, Contains, refl, sym, ◌∙◌, ap, subst, arith}
use Rattle.std.specs.Prelude.{nat_lt, slice_get, slice_index_or, Result, Ok, Err, IfSome, IsNone}
use Rattle.std.specs.Result.{result_ok}
use Rattle.std.specs.declared.cmp.Ordering.{Ordering}
use Rattle.std.specs.declared.cmp.Ordering.TheVariants.{Less, Equal, Greater}
use Rattle.std.specs.Ordering.{ordering_then, ordering_index, nat_cmp, is_lt}
use Rattle.std.specs.Cmp.{IsTotalOrder, nat_cmp_is}
use Rattle.std.specs.List.Sorted.{IsPartitionedBy, IsNonDecreasingBy, IsPartitionPoint, IsBinarySearchResult, IsSearchInRange}
use Rattle.std.proofs.lemmas.Bool.{ltb-true, lt-ltb, cases_lt, true≢false}
use Rattle.std.proofs.lemmas.Cmp.{then_total, on_total, nat_cmp_total}
use Rattle.std.proofs.lemmas.Map.Lookups.{exact_unsigned}
use Rattle.std.proofs.lemmas.List.Sorted.{searchable_from_sorted, IsNonDecreasingBy-from_all_adjacent}
use Rattle.std.proofs.lemmas.Option.{slice_get-get_or}
use Rattle.finite_sets.proofs.Clauses.{then_equal}
use Rattle.recognizer_model.specs.declared.Item.{Item}
use Rattle.recognizer_model.specs.Flat.{FlatGrammar}
use Rattle.recognizer_model.specs.Items.{after}
use Rattle.item_rows.specs.declared.order.RowKey.{RowKey}
use Rattle.item_rows.specs.Order.{or_end, symbol_or_end, row_key, key_cmp, IsInOrder}
use Rattle.item_rows.specs.Dotted.{no_item, dotted_at}

pub key_total : IsTotalOrder key_cmp
key_total =
    then_total (on_total (λ (k : RowKey). k.symbol) nat_cmp_total)
    (then_total (on_total (λ (k : RowKey). k.rule) nat_cmp_total)
    (then_total (on_total (λ (k : RowKey). k.dot) nat_cmp_total) (on_total (λ (k : RowKey). k.origin) nat_cmp_total)))

-- items of one key are the same
same_key : (g : FlatGrammar) (x y : Item) → key_cmp (row_key g x) (row_key g y) ≡ Equal → x ≡ y
same_key g x y e =
    let (s, e1) = then_equal _ _ e in
    let (r, e2) = then_equal _ _ e1 in
    let (d, o) = then_equal _ _ e2 in
    let er = exact_unsigned x.rule y.rule r in
    let ed = exact_unsigned x.dot y.dot d in
    let eo = exact_unsigned x.origin y.origin o in
    λ i. record { rule = er i; dot = ed i; origin = eo i }

equal_cmp : (n : ℕ) → nat_cmp n n ≡ Equal
equal_cmp n = sym (nat_cmp_is n n Equal refl)

key_itself : (k : RowKey) → key_cmp k k ≡ Equal
key_itself k =
    ap (λ o. ordering_then o (ordering_then (nat_cmp k.rule k.rule) (ordering_then (nat_cmp k.dot k.dot) (nat_cmp k.origin k.origin)))) (equal_cmp k.symbol)
    ∙ (ap (λ o. ordering_then o (ordering_then (nat_cmp k.dot k.dot) (nat_cmp k.origin k.origin))) (equal_cmp k.rule)
    ∙ (ap (λ o. ordering_then o (nat_cmp k.origin k.origin)) (equal_cmp k.dot) ∙ equal_cmp k.origin))

not_less : (a b : ℕ) (o : Ordering) → is_lt (ordering_then (nat_cmp b a) o) ≡ false → a ≤ b
not_less a b o e = elim (cases_lt b a) [
  | inl lt ↦ let l : Less ≡ nat_cmp b a = nat_cmp_is b a Less lt in let t : is_lt (ordering_then Less o) ≡ false = ap (λ r. is_lt (ordering_then r o)) l ∙ e in absurd (true≢false t)
  | inr le ↦ le
]

or_end_is : (o : Option ℕ) (x : ℕ) → x < 4294967296 → or_end o ≡ x → o ≡ Some x
or_end_is None x lt e = absurd (omega arith)
or_end_is (Some y) x lt e = ap Some e

module _ (g : FlatGrammar) (row : List Item) (order : IsInOrder g row) where
  pub symbols_rise : IsNonDecreasingBy (symbol_or_end g) row
  symbols_rise = IsNonDecreasingBy-from_all_adjacent (symbol_or_end g) row (λ k d lt. not_less _ _ _ (order k d (omega arith) lt))

  pub below_parted : (x : ℕ) → IsPartitionedBy (λ w. nat_lt (symbol_or_end g w) x) row
  below_parted x i j d le lt e = let h = ltb-true _ _ e in let o = symbols_rise i j d le lt in lt-ltb _ _ (omega arith)

  -- what waits for a symbol stands between what is below it and what is above it
  module _ (x : ℕ) (low : x < 4294967296) (start end : ℕ) (bs : start ≤ length row) (be : end ≤ length row)
      (b1 : (k : ℕ) (d : Item) → k < start → symbol_or_end g (slice_index_or row k d) < x) (a1 : (k : ℕ) (d : Item) → start ≤ k → k < length row → x ≤ symbol_or_end g (slice_index_or row k d))
      (b2 : (k : ℕ) (d : Item) → k < end → symbol_or_end g (slice_index_or row k d) < x + 1) (a2 : (k : ℕ) (d : Item) → end ≤ k → k < length row → x + 1 ≤ symbol_or_end g (slice_index_or row k d)) where
    pub start_first : start ≤ end
    start_first = go (cases_lt end start)
      where
        go : (end < start) ⊎ (start ≤ end) → start ≤ end
        go (inr l) = l
        go (inl l) = let p = b1 end no_item l in let q = a2 end no_item (omega arith) (omega arith) in absurd (omega arith)

    pub span_exact : (k : ℕ) → k < length row → ((start ≤ k) × (k < end)) ↔ (after g (dotted_at row k) ≡ Some x)
    span_exact k lt = (
      λ (from, to). (let p = a1 k no_item from lt in let q = b2 k no_item to in or_end_is (after g (dotted_at row k)) x low (omega arith)),
      λ e. (let s : symbol_or_end g (dotted_at row k) ≡ x = ap or_end e in (first s, last s)),
    )
      where
        first : symbol_or_end g (dotted_at row k) ≡ x → start ≤ k
        first s = elim (cases_lt k start) [ inl l ↦ let p = b1 k no_item l in absurd (omega arith) | inr l ↦ l ]

        last : symbol_or_end g (dotted_at row k) ≡ x → k < end
        last s = elim (cases_lt k end) [ inl l ↦ l | inr l ↦ let p = a2 k no_item l lt in absurd (omega arith) ]

  abbrev pub IsFound : Item → Option ℕ → Type 0
  IsFound item (Some k) = slice_get row k ≡ Some item
  IsFound item None = ¬ Contains row item

  not_there : (item : Item) (i : ℕ) → (IsNonDecreasingBy (λ y. ordering_index (key_cmp (row_key g y) (row_key g item))) row →
      IsPartitionPoint (λ y. key_cmp (row_key g y) (row_key g item) ≡ Less) (λ y. key_cmp (row_key g y) (row_key g item) ≡ Greater) row i) → ¬ Contains row item
  not_there item i point (k, lt, e) =
      let (below, above) = point (searchable_from_sorted key_total (row_key g) row (row_key g item) order) in
      let here : key_cmp (row_key g (slice_index_or row k item)) (row_key g item) ≡ Equal = ap (λ y. key_cmp (row_key g y) (row_key g item)) e ∙ key_itself (row_key g item) in
      elim (cases_lt k i) [
        | inl l ↦ let b = below k item (omega arith) l in absurd (cc)
        | inr l ↦ let a = above k item l lt in absurd (cc)
      ]

  -- what a search tells
  pub found : (item : Item) (k : ℕ) → k < length row → ((d : Item) → key_cmp (row_key g (slice_index_or row k d)) (row_key g item) ≡ Equal) → slice_get row k ≡ Some item
  found item k lt same = slice_get-get_or row k item lt ∙ ap Some (same_key g _ _ (same item))

  pub searched : (item : Item) (key : RowKey) (r : Result ℕ ℕ) → key ≡ row_key g item → IsSearchInRange r (length row) → IsBinarySearchResult (λ y. key_cmp (row_key g y) key) row r →
      IsFound item (result_ok r)
  searched item key (Ok k) e bound at = found item k bound (λ d. subst (λ z. key_cmp (row_key g (slice_index_or row k d)) z ≡ Equal) e (at d))
  searched item key (Err i) e bound at = not_there item i (subst (λ z. IsBinarySearchResult (λ y. key_cmp (row_key g y) z) row (Err i)) e at)

  pub found_some : (item : Item) (o : Option ℕ) → IsFound item o → IfSome o (λ k. slice_get row k ≡ Some item)
  found_some item (Some k) h = h
  found_some item None h = tt

  pub found_none : (item : Item) (o : Option ℕ) → IsFound item o → IsNone o → ¬ Contains row item
  found_none item None h e = h
  found_none item (Some k) h e = absurd (cc)
