-- Numbers that rise, and a part of them.
use Rattle.std.proofs.Common.{◌≡◌, ◌∙◌, inl, inr, ◌↔◌, ℕ, ◌+◌, ◌-◌, ◌<◌, ◌≤◌, true, false, List, length, take, drop, get_or, Contains, sym, ap, arith, length-take, length-drop}
use Rattle.std.specs.Prelude.{nat_lt, slice_index}
use Rattle.std.specs.List.{AllWithin}
use Rattle.std.specs.List.Sorted.{IsPartitionedBy, IsPartitionPoint}
use Rattle.std.proofs.lemmas.Bool.{ltb-true, ltb-false, lt-ltb, cases_lt}
use Rattle.std.proofs.lemmas.List.{get_or-take, get_or-drop}
use Rattle.kernels.specs.Slots.{Rises}
use Rattle.kernels.proofs.Numbers.{index_any, in_order, at_least}
use Rattle.shared_lists.specs.Counted.{IsCount}

-- so many numbers pass the test that they are below a bound
module _ (row : List ℕ) (bound count : ℕ) where
  pub count_parted : count ≤ length row → IsPartitionPoint (λ n. nat_lt n bound ≡ true) (λ n. nat_lt n bound ≡ false) row count → IsCount row bound count
  count_parted within point = record {
    within = within;
    below = λ k lt. ltb-true _ _ (point.0 k 0 (omega arith) lt);
    above = λ k le lt. ltb-false _ _ (point.1 k 0 le lt);
  }

  pub passed_below : count ≤ length row → ((k : ℕ) → k < count → slice_index row k < bound) → AllWithin (λ n. nat_lt n bound ≡ true) row 0 count
  passed_below within below k d from lt =
      let a = index_any row k d 0 (omega arith) in
      let b = below k lt in
      lt-ltb _ _ (omega arith)

-- numbers that rise
module _ (row : List ℕ) (rises : Rises row) where
  pub below_parted : (bound : ℕ) → IsPartitionedBy (λ n. nat_lt n bound) row
  below_parted bound i j d le lt e =
      let h = ltb-true _ _ e in
      let o = in_order row rises i j le lt in
      let a = index_any row i d 0 (omega arith) in
      let b = index_any row j d 0 lt in
      lt-ltb _ _ (omega arith)

  -- a number is at least its place
  pub count_small : (bound count : ℕ) → count ≤ length row → ((k : ℕ) → k < count → slice_index row k < bound) → count ≤ bound
  count_small bound count le below = elim (cases_lt 0 count) [
    | inl some ↦ let b = below (count - 1) (omega arith) in let a = at_least row rises (count - 1) (omega arith) in omega arith
    | inr none ↦ omega arith
  ]

  -- a part of them
  module _ (start end : ℕ) (le : start ≤ end) (bound : end ≤ length row) where
    part_length : length (take (end - start) (drop start row)) ≡ end - start
    part_length = grind (arith, length-take, length-drop)

    part_at : (k d : ℕ) → k < end - start → get_or (take (end - start) (drop start row)) k d ≡ get_or row (start + k) d
    part_at k d lt = get_or-take (end - start) (drop start row) k d lt ∙ get_or-drop start row k d

    pub part_rises : Rises (take (end - start) (drop start row))
    part_rises i j d lt below =
        let l = part_length in
        let r = rises (start + i) (start + j) d (omega arith) (omega arith) in
        let a = part_at i d (omega arith) in
        let b = part_at j d (omega arith) in
        omega arith

  -- the part between two bounds
  module _ (low high start end : ℕ) (le : low ≤ high) (bs : start ≤ length row) (be : end ≤ length row)
      (b1 : (k : ℕ) → k < start → slice_index row k < low) (a1 : (k : ℕ) → start ≤ k → k < length row → low ≤ slice_index row k)
      (b2 : (k : ℕ) → k < end → slice_index row k < high) (a2 : (k : ℕ) → end ≤ k → k < length row → high ≤ slice_index row k) where
    pub part_order : start ≤ end
    part_order = elim (cases_lt end start) [ inr l ↦ l | inl l ↦ let p = b1 end l in let q = a2 end (omega arith) (omega arith) in absurd (omega arith) ]

    pub part_exact : (n : ℕ) → Contains (take (end - start) (drop start row)) n ↔ (Contains row n × (low ≤ n) × (n < high))
    part_exact n = (there, back)
      where
        there : Contains (take (end - start) (drop start row)) n → Contains row n × (low ≤ n) × (n < high)
        there (k, lt, e) =
            let l = part_length start end part_order be in
            let at = part_at start end part_order be k n (omega arith) in
            let same = index_any row (start + k) 0 n (omega arith) in
            let p = a1 (start + k) (omega arith) (omega arith) in
            let q = b2 (start + k) (omega arith) in
            ((start + k, omega arith, sym at ∙ e), omega arith, omega arith)

        back : Contains row n × (low ≤ n) × (n < high) → Contains (take (end - start) (drop start row)) n
        back ((k, lt, e), from, to) =
            let same = index_any row k 0 n lt in
            let f : start ≤ k = elim (cases_lt k start) [ inr l ↦ l | inl l ↦ let p = b1 k l in absurd (omega arith) ] in
            let t : k < end = elim (cases_lt k end) [ inl l ↦ l | inr l ↦ let p = a2 k l lt in absurd (omega arith) ] in
            let l = part_length start end part_order be in
            let at = part_at start end part_order be (k - start) n (omega arith) in
            let place : start + (k - start) ≡ k = omega arith in
            (k - start, omega arith, at ∙ (ap (λ m. get_or row m n) place ∙ e))
