-- Rows of packed items.
use Rattle.std.proofs.Common.{rules, ◌≡◌, ◌≢◌, ◌==◌, inl, inr, ◌↔◌, ℕ, ◌+◌, ◌/◌, ◌%◌, ◌<◌, ◌≤◌, ◌++◌, true, List, [], ◌∷◌, length, map, take, get_or, Contains, refl, sym, ◌∙◌, ap, subst, arith}
use Rattle.std.specs.Prelude.{slice_index, slice_index_or, Result, Ok, Err, MatchResult, is_ok, IsTrue}
use Rattle.std.specs.Ordering.{nat_cmp}
use Rattle.std.specs.Cmp.{IsEquivalence}
use Rattle.std.specs.Cmp.Rules.{comparing}
use Rattle.std.specs.List.{AllPairs}
use Rattle.std.specs.List.Sorted.{IsPermutation, IsSorted, IsStrictlyIncreasing, IsBinarySearchResult}
use Rattle.std.proofs.lemmas.Bool.{eqb-true, eq-eqb, cases_lt}
use Rattle.std.proofs.lemmas.List.{get_or-map, take_more}
use Rattle.std.proofs.lemmas.List.Sorted.{searched, Contains-permutation, IsPermutation-sym, IsPermutation-map, IsNonDecreasingBy-from_sort}
use Rattle.std.proofs.lemmas.List.Kept.{AllPairs-from_increasing}
use Rattle.std.proofs.lemmas.Map.Keys.{IsDistinct-IsPermutation}
use Rattle.std.proofs.lemmas.Map.Made.{AllPairs-from_IsDistinct, IsDistinct-from_AllPairs}
use Rattle.recognizer_model.specs.declared.Item.{Item}
use Rattle.recognizer_model.specs.Counts.{IsListOf}
use Rattle.item_rows.specs.declared.dotted.Span.{Span}
use Rattle.kernels.specs.Slots.{Rises}
use Rattle.item_rows.specs.Dotted.{unpacked, IsPacked, IsPackedRow, DifferInDots, IsSpanOf}
use Rattle.item_rows.proofs.Items.{once_permuted}
use Rattle.kernels.proofs.Numbers.{map_length, map_has, map_from, map_more, index_any, in_order}

-- one more number is packed
pub pack_more : (rules items : List Item) (packed new : List ℕ) (k n : ℕ) (d : Item) → map (unpacked rules) packed ≡ take k items → new ≡ packed ++ n ∷ [] → unpacked rules n ≡ get_or items k d → k < length items →
    map (unpacked rules) new ≡ take (k + 1) items
pack_more rules items packed new k n d before is same lt =
    ap (map (unpacked rules)) is ∙ (map_more (unpacked rules) packed (n ∷ []) ∙ (ap (λ l. l ++ unpacked rules n ∷ []) before ∙ (ap (λ x. take k items ++ x ∷ []) same ∙ sym (take_more items k d lt))))

-- numbers that rise
module _ (row : List ℕ) (rises : Rises row) where
  pub search_tells : (n : ℕ) (r : Result ℕ ℕ) → IsBinarySearchResult (λ y. nat_cmp y n) row r → IsTrue (is_ok r) ↔ Contains row n
  search_tells n r h = go r (searched row n r h (in_order row rises))
    where
      go : (r : Result ℕ ℕ) → MatchResult r (λ i. (i < length row) × (get_or row i 0 ≡ n)) (λ i. (i ≤ length row) × ((k : ℕ) → k < i → get_or row k 0 < n) × ((k : ℕ) → i ≤ k → k < length row → n < get_or row k 0)) →
          IsTrue (is_ok r) ↔ Contains row n
      go (Ok i) (lt, e) = ((λ _. (i, lt, index_any row i n 0 lt ∙ e)), (λ _. refl))
      go (Err i) (le, below, above) = (
        (λ t. absurd (cc)),
        (λ (k, lt, e). (
            let same : get_or row k 0 ≡ n = index_any row k 0 n lt ∙ e in
            absurd (elim (cases_lt k i) [ inl l ↦ let b = below k l in omega arith | inr l ↦ let a = above k l lt in omega arith ]))),
      )

-- the packed items of a row with dotted rules of a span
module _ (rules : List Item) (row : List ℕ) (is : IsPackedRow (length rules) row) (Kind : (rule dot : ℕ) → Type 0) (span : Span) (is_span : IsSpanOf Kind rules span) where
  pub of_kind : (n : ℕ) (item : Item) → Contains row n → unpacked rules n ≡ item → ((span.start ≤ n / 4294967296) × (n / 4294967296 < span.end)) ↔ Kind item.rule item.dot
  of_kind n item h e =
      let (to, from) = is_span.exact (n / 4294967296) (is.within n h) in
      ((λ p. subst (λ (z : Item). Kind z.rule z.dot) e (to p)), (λ w. from (subst (λ (z : Item). Kind z.rule z.dot) (sym e) w)))

module _ (rules : List Item) (differ : DifferInDots rules) where
  pub unpack_one : (m n : ℕ) → m / 4294967296 < length rules → n / 4294967296 < length rules → unpacked rules m ≡ unpacked rules n → m ≡ n
  unpack_one m n a b e =
      let r = ap (λ (z : Item). z.rule) e in
      let d = ap (λ (z : Item). z.dot) e in
      let o : m % 4294967296 ≡ n % 4294967296 = ap (λ (z : Item). z.origin) e in
      let q : m / 4294967296 ≡ n / 4294967296 = differ (m / 4294967296) (n / 4294967296) a b r d in
      omega arith

  pub once_unpacked : (row : List ℕ) → IsPackedRow (length rules) row → AllPairs (λ x y. x ≢ y) (map (unpacked rules) row)
  once_unpacked row is i j d lt below e =
      let l = map_length (unpacked rules) row in
      let m = get_or row i 0 in
      let n = get_or row j 0 in
      let h : unpacked rules m ≡ unpacked rules n = sym (get_or-map (unpacked rules) row i 0 d (omega arith)) ∙ (e ∙ get_or-map (unpacked rules) row j 0 d (omega arith)) in
      let same = unpack_one m n (is.within m (i, omega arith, index_any row i m 0 (omega arith))) (is.within n (j, omega arith, index_any row j n 0 (omega arith))) h in
      let r = is.rises i j 0 lt (omega arith) in
      absurd (omega arith)

  module _ (row : List ℕ) (is : IsPackedRow (length rules) row) (Kind : (rule dot : ℕ) → Type 0) (span : Span) (is_span : IsSpanOf Kind rules span) where
    module _ (part : List ℕ) (rises : Rises part) (exact : (n : ℕ) → Contains part n ↔ (Contains row n × (span.start ≤ n / 4294967296) × (n / 4294967296 < span.end))) where
      pub part_packed : IsPackedRow (length rules) part
      part_packed = record { rises = rises; within = λ n h. is.within n ((exact n).0 h).0 }

      pub part_of_kind : IsListOf (λ item. Contains (map (unpacked rules) row) item × Kind item.rule item.dot) (map (unpacked rules) part)
      part_of_kind = record { once = once_unpacked part part_packed; exact = λ item. (there item, back item) }
        where
          there : (item : Item) → Contains (map (unpacked rules) part) item → Contains (map (unpacked rules) row) item × Kind item.rule item.dot
          there item c =
              let (n, h, e) = map_from (unpacked rules) part item c in
              let (in_row, from, to) = (exact n).0 h in
              (subst (Contains (map (unpacked rules) row)) e (map_has (unpacked rules) row n in_row), (of_kind rules row is Kind span is_span n item in_row e).0 (from, to))

          back : (item : Item) → Contains (map (unpacked rules) row) item × Kind item.rule item.dot → Contains (map (unpacked rules) part) item
          back item (c, w) =
              let (n, h, e) = map_from (unpacked rules) row item c in
              let (from, to) = (of_kind rules row is Kind span is_span n item h e).1 w in
              subst (Contains (map (unpacked rules) part)) e (map_has (unpacked rules) part n ((exact n).1 (h, from, to)))

  pub packed_there : (row : List ℕ) → IsPackedRow (length rules) row → (item : Item) (n : ℕ) → IsPacked rules n item → Contains row n ↔ Contains (map (unpacked rules) row) item
  packed_there row is item n (lt, e) = (
    λ h. subst (Contains (map (unpacked rules) row)) e (map_has (unpacked rules) row n h),
    λ c. (let (m, h, same) = map_from (unpacked rules) row item c in subst (Contains row) (unpack_one m n (is.within m h) lt (same ∙ sym e)) h),
  )

pub packed_absent : (rules : List Item) (row : List ℕ) → IsPackedRow (length rules) row → (item : Item) → ((n : ℕ) → ¬ IsPacked rules n item) → ¬ Contains (map (unpacked rules) row) item
packed_absent rules row is item none c = let (m, h, same) = map_from (unpacked rules) row item c in none m (is.within m h, same)

-- a row is packed: its items are packed, and the numbers are sorted
nat_eq-laws : IsEquivalence (λ (m n : ℕ). m == n)
nat_eq-laws = search (comparing, rules)

decides : (m n : ℕ) → ((m == n) ≡ true → m ≡ n) × (m ≡ n → (m == n) ≡ true)
decides m n = (eqb-true m n, eq-eqb m n)

-- different numbers rise where they are sorted
module _ (old sorted : List ℕ) (once : AllPairs (λ m n. m ≢ n) old) (moved : IsPermutation old sorted) (order : IsSorted nat_cmp sorted) where
  sorted_apart : AllPairs (λ m n. m ≢ n) sorted
  sorted_apart = AllPairs-from_IsDistinct decides sorted (IsDistinct-IsPermutation (λ m n. m == n) nat_eq-laws.symm old sorted moved (IsDistinct-from_AllPairs decides old once))

  increasing : IsStrictlyIncreasing sorted
  increasing k lt =
      let up = IsNonDecreasingBy-from_sort (λ (n : ℕ). n) sorted order k (k + 1) 0 (omega arith) lt in
      let apart : slice_index sorted k ≢ slice_index sorted (k + 1) = sorted_apart k (k + 1) 0 (omega arith) lt in
      elim (cases_lt (slice_index sorted k) (slice_index sorted (k + 1))) [ inl l ↦ l | inr l ↦ absurd (apart (omega arith)) ]

  pub sorted_rises : Rises sorted
  sorted_rises = AllPairs-from_increasing sorted increasing

module _ (rules : List Item) (items : List Item) (packed sorted : List ℕ) (is : map (unpacked rules) packed ≡ items) (within : (n : ℕ) → Contains packed n → n / 4294967296 < length rules)
    (once : AllPairs (λ x y. x ≢ y) items) (moved : IsPermutation packed sorted) (order : IsSorted nat_cmp sorted) where
  packed_once : AllPairs (λ m n. m ≢ n) packed
  packed_once i j d lt below e =
      let l = map_length (unpacked rules) packed in
      let s = ap (λ (z : List Item). length z) is in
      let u = unpacked rules d in
      let at : (k : ℕ) → k < length packed → slice_index_or items k u ≡ unpacked rules (slice_index_or packed k d) = λ k b. ap (λ z. slice_index_or z k u) (sym is) ∙ get_or-map (unpacked rules) packed k d u b in
      once i j u lt (omega arith) (at i (omega arith) ∙ (ap (unpacked rules) e ∙ sym (at j below)))

  pub sorted_row : IsPackedRow (length rules) sorted
  sorted_row = record { rises = sorted_rises packed sorted packed_once moved order; within = λ n h. within n (Contains-permutation sorted packed n (IsPermutation-sym packed sorted moved) h) }

  permuted : IsPermutation items (map (unpacked rules) sorted)
  permuted = subst (λ (l : List Item). IsPermutation l (map (unpacked rules) sorted)) is (IsPermutation-map (unpacked rules) packed sorted moved)

  pub sorted_items : IsListOf (Contains items) (map (unpacked rules) sorted)
  sorted_items = record {
    once = once_permuted items (map (unpacked rules) sorted) permuted once;
    exact = λ item. (
      Contains-permutation (map (unpacked rules) sorted) items item (IsPermutation-sym items (map (unpacked rules) sorted) permuted),
      Contains-permutation items (map (unpacked rules) sorted) item permuted,
    );
  }
