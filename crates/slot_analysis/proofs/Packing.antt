-- A grammar without gaps between its levels has the same slots in its trees, each under the place of its level.
use Rattle.std.proofs.Common.{arith, ◌≡◌, ℕ, zero, suc, ◌+◌, ◌<◌, Bool, true, false, nat_lt, ◌==◌, ◌&&◌, if◌then◌else◌, List, take, drop, Contains, slice_index, refl, sym, ◌∙◌, ap, subst, ltb-true, ltb-false}
use Rattle.std.proofs.lemmas.Bool.{eqb-true, eqb-false, eq-eqb, ne_eqb, lt-ltb, le-ltb}
use Rattle.std.specs.List.Sorted.{IsStrictlyIncreasing}
use Rattle.grammar_model.specs.declared.Assoc.{Assoc}
use Rattle.grammar_model.specs.declared.Assoc.TheVariants.{Left, Right, Group}
use Rattle.grammar_model.specs.Grammar.{WrittenRule, Plain, Sequence, PlainRule, slot_of, lhs_of, level_of, tighter, occurs, own_level, child_level, slot_count}
use Rattle.grammar_model.specs.Analysis.{IsStar}
use Rattle.jagged.specs.Rows.{row_at}
use Rattle.slot_analysis.specs.Packed.{place, packed_rule, packed_slot}
use Rattle.slot_analysis.proofs.Counting.{below_rises, below_zero, below_next}

-- of one rule
pub lhs_is : (rows : List (List ℕ)) (r : WrittenRule) → lhs_of (packed_rule rows r) ≡ lhs_of r
lhs_is rows (Plain r) = refl
lhs_is rows (Sequence r) = refl

pub level_is : (rows : List (List ℕ)) (r : WrittenRule) → level_of (packed_rule rows r) ≡ place rows (lhs_of r) (level_of r)
level_is rows (Plain r) = refl
level_is rows (Sequence r) = sym (below_zero (row_at rows r.lhs))

pub slots_are : (rows : List (List ℕ)) (r : WrittenRule) → slot_count (packed_rule rows r) ≡ slot_count r
slots_are rows (Plain r) = refl
slots_are rows (Sequence r) = refl

pub first_is : (rows : List (List ℕ)) (s : ℕ) → packed_slot rows (slot_of s) ≡ slot_of s
first_is rows s i = record { symbol = s; level = below_zero (row_at rows s) i }

pub star_to : (rows : List (List ℕ)) (r : WrittenRule) → IsStar r → IsStar (packed_rule rows r)
star_to rows (Plain r) h = h
star_to rows (Sequence r) h = h

pub star_from : (rows : List (List ℕ)) (r : WrittenRule) → IsStar (packed_rule rows r) → IsStar r
star_from rows (Plain r) h = h
star_from rows (Sequence r) h = h

same_test : (a b m n : ℕ) → (a ≡ b → m ≡ n) → ((a ≡ b → ⊥) → m ≡ n → ⊥) → (m == n) ≡ (a == b)
same_test a b m n to from = by (a == b) refl
  where
    by : (t : Bool) → (a == b) ≡ t → (m == n) ≡ t
    by true e = eq-eqb m n (to (eqb-true a b e))
    by false e = ne_eqb m n (from (eqb-false a b e))

-- a plain rule, whose level and the next one occur
module _ (rows : List (List ℕ)) (rising : (s : ℕ) → IsStrictlyIncreasing (row_at rows s)) (r : PlainRule) (small : r.level < r.groups)
    (here : Contains (row_at rows r.lhs) r.level) (next : Contains (row_at rows r.lhs) (suc r.level)) (first : Contains (row_at rows r.lhs) 0) where
  abbrev at : ℕ → ℕ
  at l = place rows r.lhs l

  after : at (suc r.level) ≡ suc (at r.level)
  after = below_next (row_at rows r.lhs) (rising r.lhs) r.level here

  grows : suc r.level < r.groups → suc (at r.level) < at r.groups
  grows lt =
      let a = below_next (row_at rows r.lhs) (rising r.lhs) (suc r.level) next in
      let b = below_rises (row_at rows r.lhs) (suc (suc r.level)) r.groups (omega (arith, lt)) in
      omega (arith, a, b, after)

  ends : r.level + 1 ≡ r.groups → at r.level + 1 ≡ at r.groups
  ends e = let q : suc r.level ≡ r.groups = omega (arith, e) in omega (arith, after, ap at q)

  last_same : (at r.level + 1 == at r.groups) ≡ (r.level + 1 == r.groups)
  last_same = same_test (r.level + 1) r.groups (at r.level + 1) (at r.groups) ends (λ ne e. (let h = grows (less ne) in omega (arith, h, e)))
    where
      less : (r.level + 1 ≡ r.groups → ⊥) → suc r.level < r.groups
      less ne = grind (arith, small, ne)

  pub places_below : at r.level < at r.groups
  places_below = let b = below_rises (row_at rows r.lhs) (suc r.level) r.groups (omega (arith, small)) in omega (arith, b, after)

  many_same : nat_lt 1 (at r.groups) ≡ nat_lt 1 r.groups
  many_same = by (nat_lt 1 r.groups) refl
    where
      more : (l : ℕ) → r.level ≡ l → 1 < r.groups → 1 < at r.groups
      more zero e lt = let h = grows (omega (arith, lt, e)) in omega (arith, h)
      more (suc l) e lt =
          let a = below_next (row_at rows r.lhs) (rising r.lhs) 0 first in
          let b = below_rises (row_at rows r.lhs) 1 r.level (omega (arith, e)) in
          let c = places_below in
          omega (arith, a, b, c)

      by : (b : Bool) → nat_lt 1 r.groups ≡ b → nat_lt 1 (at r.groups) ≡ b
      by true e = lt-ltb 1 (at r.groups) (more r.level refl (ltb-true 1 r.groups e))
      by false e =
          let few = ltb-false 1 r.groups e in
          let z : r.level ≡ 0 = omega (arith, few, small) in
          let q : r.level + 1 ≡ r.groups = omega (arith, few, small) in
          le-ltb 1 (at r.groups) (let h = ends q in let zero_at = below_zero (row_at rows r.lhs) in let i = ap at z in omega (arith, h, i, zero_at))

  abbrev p : PlainRule
  p = record { lhs = r.lhs; rhs = r.rhs; level = at r.level; groups = at r.groups; assoc = r.assoc; rank = r.rank; null_high = r.null_high }

  tighter_is : tighter p ≡ at (tighter r)
  tighter_is = ap (λ b. if b then 0 else at r.level + 1) last_same ∙ by (r.level + 1 == r.groups)
    where
      by : (b : Bool) → (if b then 0 else at r.level + 1) ≡ at (if b then 0 else r.level + 1)
      by true = sym (below_zero (row_at rows r.lhs))
      by false = let q : suc r.level ≡ r.level + 1 = omega arith in omega (arith, after, ap at q)

  own_is : (a : Assoc) (k : ℕ) → own_level a p k ≡ at (own_level a r k)
  own_is Left k = by (occurs r.lhs (take k r.rhs))
    where
      by : (b : Bool) → (if b then tighter p else at r.level) ≡ at (if b then tighter r else r.level)
      by true = tighter_is
      by false = refl
  own_is Right k = by (occurs r.lhs (drop (suc k) r.rhs))
    where
      by : (b : Bool) → (if b then tighter p else at r.level) ≡ at (if b then tighter r else r.level)
      by true = tighter_is
      by false = refl
  own_is Group k = sym (below_zero (row_at rows r.lhs))

  pub level_same : (k : ℕ) → child_level p k ≡ place rows (slice_index r.rhs k) (child_level r k)
  level_same k = ap (λ b. if b && (slice_index r.rhs k == r.lhs) then own_level r.assoc p k else 0) many_same ∙ by (nat_lt 1 r.groups) (slice_index r.rhs k == r.lhs) refl
    where
      by : (b c : Bool) → (slice_index r.rhs k == r.lhs) ≡ c → (if b && c then own_level r.assoc p k else 0) ≡ place rows (slice_index r.rhs k) (if b && c then own_level r.assoc r k else 0)
      by true true e = own_is r.assoc k ∙ ap (λ s. place rows s (own_level r.assoc r k)) (sym (eqb-true (slice_index r.rhs k) r.lhs e))
      by true false e = sym (below_zero (row_at rows (slice_index r.rhs k)))
      by false c e = sym (below_zero (row_at rows (slice_index r.rhs k)))

  tighter_occurs : Contains (row_at rows r.lhs) (tighter r)
  tighter_occurs = by (r.level + 1 == r.groups)
    where
      by : (b : Bool) → Contains (row_at rows r.lhs) (if b then 0 else r.level + 1)
      by true = first
      by false = subst (Contains (row_at rows r.lhs)) (let q : suc r.level ≡ r.level + 1 = omega arith in q) next

  own_occurs : (a : Assoc) (k : ℕ) → Contains (row_at rows r.lhs) (own_level a r k)
  own_occurs Left k = by (occurs r.lhs (take k r.rhs))
    where
      by : (b : Bool) → Contains (row_at rows r.lhs) (if b then tighter r else r.level)
      by true = tighter_occurs
      by false = here
  own_occurs Right k = by (occurs r.lhs (drop (suc k) r.rhs))
    where
      by : (b : Bool) → Contains (row_at rows r.lhs) (if b then tighter r else r.level)
      by true = tighter_occurs
      by false = here
  own_occurs Group k = first

  pub part_occurs : (k : ℕ) → Contains (row_at rows (slice_index r.rhs k)) 0 → Contains (row_at rows (slice_index r.rhs k)) (child_level r k)
  part_occurs k zero_in = by (nat_lt 1 r.groups) (slice_index r.rhs k == r.lhs) refl
    where
      by : (b c : Bool) → (slice_index r.rhs k == r.lhs) ≡ c → Contains (row_at rows (slice_index r.rhs k)) (if b && c then own_level r.assoc r k else 0)
      by true true e = subst (λ s. Contains (row_at rows s) (own_level r.assoc r k)) (sym (eqb-true (slice_index r.rhs k) r.lhs e)) (own_occurs r.assoc k)
      by true false e = zero_in
      by false c e = zero_in
