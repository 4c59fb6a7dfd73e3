-- Lists in order: those with one first number, one second or one third stand together.
use Rattle.std.proofs.Common.{◌≡◌, ℕ, zero, suc, ◌<◌, ◌≤◌, ◌-◌, ◌⊎◌, inl, inr, ◌↔◌, Contains, List, [], ◌∷◌, length, get_or, take, drop, ◌∙◌, ap, subst, arith}
use Rattle.std.specs.Prelude.{nat_lt, slice_index_or}
use Rattle.std.specs.declared.cmp.Ordering.{Ordering}
use Rattle.std.specs.declared.cmp.Ordering.TheVariants.{Less, Equal}
use Rattle.std.specs.Ordering.{ordering_then, nat_cmp}
use Rattle.std.specs.Cmp.{nat_cmp_is}
use Rattle.std.specs.List.{AllByRecursion}
use Rattle.std.specs.List.Sorted.{IsPartitionedBy, IsNonDecreasingBy, IsStrictlySortedBy}
use Rattle.std.proofs.lemmas.Bool.{ltb-true, lt-ltb, cases_lt}
use Rattle.std.proofs.lemmas.Map.Keys.{Less-from_sorted}
use Rattle.std.proofs.lemmas.List.Elements.{Contains-get_or}
use Rattle.finite_sets.proofs.Lists.{get_index}
use Rattle.finite_sets.proofs.Clauses.{then_at_most}
use Rattle.grammar_core.proofs.Placed.{part_from, part_to, found_at, at_found}
use Rattle.forest_parts.specs.Lists.{between}

-- the elements of a list in order that have one number
module _ {X : Type 0} (n : X → ℕ) (row : List X) (order : IsNonDecreasingBy n row) (x : ℕ) where
  pub below_parted : IsPartitionedBy (λ w. nat_lt (n w) x) row
  below_parted i j d le lt e = let h = ltb-true _ _ e in let o = order i j d le lt in lt-ltb _ _ (omega arith)

  module _ (start end : ℕ) (bs : start ≤ length row) (be : end ≤ length row)
      (b1 : (k : ℕ) (d : X) → k < start → n (slice_index_or row k d) < x) (a1 : (k : ℕ) (d : X) → start ≤ k → k < length row → x ≤ n (slice_index_or row k d))
      (b2 : (k : ℕ) (d : X) → k < end → n (slice_index_or row k d) ≤ x) (a2 : (k : ℕ) (d : X) → end ≤ k → k < length row → x < n (slice_index_or row k d)) (none : X) where
    pub start_first : start ≤ end
    start_first = go (cases_lt end start)
      where
        go : (end < start) ⊎ (start ≤ end) → start ≤ end
        go (inr l) = l
        go (inl l) = let p = b1 end none l in let q = a2 end none (omega arith) (omega arith) in absurd (omega arith)

    pub part_has : (w : X) → Contains (take (end - start) (drop start row)) w ↔ (Contains row w × (n w ≡ x))
    part_has w = (there', back)
      where
        there' : Contains (take (end - start) (drop start row)) w → Contains row w × (n w ≡ x)
        there' h =
            let (k, from, to, is) = part_from row start end start_first be w h in
            let (lt, same) = get_index row k w w is in
            let p = a1 k w from lt in
            let q = b2 k w to in
            let s = ap (λ (z : X). n z) same in
            (at_found row k w is, omega arith)

        back : Contains row w × (n w ≡ x) → Contains (take (end - start) (drop start row)) w
        back (c, e) =
            let (k, is) = found_at row w c in
            let (lt, same) = get_index row k w w is in
            let s = ap (λ (z : X). n z) same in
            part_to row start end start_first be k w (first k lt (s ∙ e)) (last k lt (s ∙ e)) is
          where
            first : (k : ℕ) → k < length row → n (slice_index_or row k w) ≡ x → start ≤ k
            first k lt s = elim (cases_lt k start) [ inl l ↦ let p = b1 k w l in absurd (omega arith) | inr l ↦ l ]

            last : (k : ℕ) → k < length row → n (slice_index_or row k w) ≡ x → k < end
            last k lt s = elim (cases_lt k end) [ inl l ↦ l | inr l ↦ let p = a2 k w l lt in absurd (omega arith) ]

-- LISTS IN STRICT ORDER

module _ {K : Type 0} (c : K → K → Ordering) where
  all_take : (P : K → Type 0) (n : ℕ) (xs : List K) → AllByRecursion P xs → AllByRecursion P (take n xs)
  all_take P zero xs h = tt
  all_take P (suc n) [] h = tt
  all_take P (suc n) (x ∷ xs) h = (h.0, all_take P n xs h.1)

  pub sorted_take : (n : ℕ) (xs : List K) → IsStrictlySortedBy c xs → IsStrictlySortedBy c (take n xs)
  unfolding IsStrictlySortedBy
  sorted_take zero xs h = tt
  sorted_take (suc n) [] h = tt
  sorted_take (suc n) (x ∷ xs) h = (all_take (λ y. c x y ≡ Less) n xs h.0, sorted_take n xs h.1)

  pub sorted_drop : (n : ℕ) (xs : List K) → IsStrictlySortedBy c xs → IsStrictlySortedBy c (drop n xs)
  unfolding IsStrictlySortedBy
  sorted_drop zero xs h = h
  sorted_drop (suc n) [] h = tt
  sorted_drop (suc n) (x ∷ xs) h = sorted_drop n xs h.1

  pub sorted_between : (first end : ℕ) (xs : List K) → IsStrictlySortedBy c xs → IsStrictlySortedBy c (between first end xs)
  sorted_between first end xs h = sorted_take (end - first) (drop first xs) (sorted_drop first xs h)

pub then_rest : (a b : ℕ) (o : Ordering) → ordering_then (nat_cmp a b) o ≡ Less → a ≡ b → o ≡ Less
then_rest a b o e same = let g = nat_cmp_is a b Equal same in ap (λ r. ordering_then r o) g ∙ e

module _ {X : Type 0} (f g h : X → ℕ) (rest : X → X → Ordering) where
  abbrev pub by_third : X → X → Ordering
  by_third a b = ordering_then (nat_cmp (h a) (h b)) (rest a b)

  abbrev pub by_second : X → X → Ordering
  by_second a b = ordering_then (nat_cmp (g a) (g b)) (by_third a b)

  abbrev pub by_first : X → X → Ordering
  by_first a b = ordering_then (nat_cmp (f a) (f b)) (by_second a b)

  module _ (row : List X) (sorted : IsStrictlySortedBy by_first row) where
    abbrev pub SameFirst : Type 0
    SameFirst = (p q : X) → Contains row p → Contains row q → f p ≡ f q

    abbrev pub SameSecond : Type 0
    SameSecond = (p q : X) → Contains row p → Contains row q → g p ≡ g q

    less : (i j : ℕ) (d : X) → i < j → j < length row → by_first (get_or row i d) (get_or row j d) ≡ Less
    less i j d lt below = Less-from_sorted by_first row i j d sorted lt below

    module _ (firsts : SameFirst) where
      after_firsts : (i j : ℕ) (d : X) → i < j → j < length row → by_second (get_or row i d) (get_or row j d) ≡ Less
      after_firsts i j d lt below = then_rest _ _ _ (less i j d lt below) (firsts (get_or row i d) (get_or row j d) (Contains-get_or row i d (omega arith)) (Contains-get_or row j d below))

      pub seconds_rise : IsNonDecreasingBy g row
      seconds_rise i j d le below = elim (cases_lt i j) [
        | inl lt ↦ then_at_most _ _ _ (after_firsts i j d lt below)
        | inr ge ↦ let same : i ≡ j = omega arith in subst (λ k. g (get_or row i d) ≤ g (get_or row k d)) same (omega arith)
      ]

      -- where the second is the same, the third rises
      pub thirds_rise : (i j : ℕ) (d : X) → i ≤ j → j < length row → g (get_or row i d) ≡ g (get_or row j d) → h (get_or row i d) ≤ h (get_or row j d)
      thirds_rise i j d le below e = elim (cases_lt i j) [
        | inl lt ↦ then_at_most _ _ _ (then_rest _ _ _ (after_firsts i j d lt below) e)
        | inr ge ↦ let same : i ≡ j = omega arith in subst (λ k. h (get_or row i d) ≤ h (get_or row k d)) same (omega arith)
      ]

      module _ (seconds : SameSecond) where
        -- where all three are the same, the rest is in order
        pub rest_less : (i j : ℕ) (d : X) → i < j → j < length row → h (get_or row i d) ≡ h (get_or row j d) → rest (get_or row i d) (get_or row j d) ≡ Less
        rest_less i j d lt below e = then_rest _ _ _ (then_rest _ _ _ (after_firsts i j d lt below) (seconds (get_or row i d) (get_or row j d) (Contains-get_or row i d (omega arith)) (Contains-get_or row j d below))) e
