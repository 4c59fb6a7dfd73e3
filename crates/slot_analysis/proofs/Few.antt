-- Accessible slots that differ have numbers that differ, of which there are few.
use Rattle.std.proofs.Common.{arith, ◌≡◌, ◌≢◌, ℕ, suc, ◌<◌, Bool, true, false, List, [], ◌∷◌, length, All, slice_index, refl, sym, ap, subst, true≢false}
use Rattle.std.specs.Prelude.{◌||◌, eqb, map}
use Rattle.std.specs.List.{AllByRecursion, AllPairs, IsDistinct, list_any}
use Rattle.std.proofs.lemmas.Bool.{eqb-true}
use Rattle.std.proofs.lemmas.List.{length-map}
use Rattle.std.proofs.lemmas.Map.Steps.{length-le_from_distinct_below}
use Rattle.std.proofs.lemmas.List.Elements.{All-tail}
use Rattle.grammar_model.specs.Grammar.{Grammar, Slot}
use Rattle.grammar_model.specs.Analysis.{IsAccessible}
use Rattle.slot_analysis.specs.Packed.{place, packed, packed_slot, Occurs}
use Rattle.slot_analysis.specs.Slots.{number, IsNumbered}
use Rattle.slot_analysis.specs.Tables.{IsAnalysed}
use Rattle.slot_analysis.specs.Few.{FewAreAccessible}
use Rattle.slot_analysis.proofs.Rounds.{bases_rise, one_symbol}
use Rattle.slot_analysis.proofs.Beyond.{accessible_numbered}
use Rattle.slot_analysis.proofs.Transfer.{accessible_to, accessible_occurs, same_slots}

module _ (g : Grammar) (rows : List (List ℕ)) (bases : List ℕ) (lefts : List Bool) (nullables productives reach : List ℕ) (t : IsAnalysed g rows bases lefts nullables productives reach) where
  abbrev total : ℕ
  total = slice_index bases (length g.names)

  abbrev number_at : Slot → ℕ
  number_at s = number bases (packed_slot rows s)

  numbered : (s : Slot) → IsAccessible g s → IsNumbered (packed rows g) bases (packed_slot rows s)
  numbered s a = let (m, h) = accessible_to g rows t.written t.levels s a in accessible_numbered m (packed rows g) bases (packed_slot rows s) t.tables.written t.tables.numbering h

  occurs : (s : Slot) → IsAccessible g s → Occurs rows s
  occurs s (m, h) = accessible_occurs g rows t.written t.levels m s h

  below : (s : Slot) → IsAccessible g s → number_at s < total
  below s a =
      let (known, small) = numbered s a in
      let up = bases_rise (packed rows g) bases s.symbol (length g.names) t.tables.numbering known (omega arith) in
      omega (arith, small, up)

  same : (s u : Slot) → IsAccessible g s → IsAccessible g u → number_at s ≡ number_at u → s ≡ u
  same s u a b e =
      let (known, small) = numbered s a in
      let (known', small') = numbered u b in
      let symbol : s.symbol ≡ u.symbol = one_symbol (packed rows g) bases s.symbol u.symbol (number_at s) t.tables.numbering known known' (omega arith) small (omega (arith, e)) (omega (arith, e, small')) in
      let level : place rows s.symbol s.level ≡ place rows u.symbol u.level = omega (arith, e, ap (slice_index bases) symbol) in
      same_slots g rows t.written t.levels s u (occurs s a) (occurs u b) (λ i. record { symbol = symbol i; level = level i })

  apart : (s : Slot) → IsAccessible g s → (slots : List Slot) → All (λ u. s ≢ u) slots → All (IsAccessible g) slots → AllByRecursion (λ y. eqb (number_at s) y ≡ false) (map number_at slots)
  apart s a [] ne all = tt
  apart s a (u ∷ us) ne all = (by (eqb (number_at s) (number_at u)) refl, apart s a us (All-tail (λ u. s ≢ u) u us ne) (All-tail (IsAccessible g) u us all))
    where
      by : (b : Bool) → eqb (number_at s) (number_at u) ≡ b → b ≡ false
      by true e = absurd (ne 0 u (omega arith) (same s u a (all 0 u (omega arith)) (eqb-true (number_at s) (number_at u) e)))
      by false e = refl

  distinct : (slots : List Slot) → AllPairs (λ s u. s ≢ u) slots → All (IsAccessible g) slots → IsDistinct eqb (map number_at slots)
  unfolding IsDistinct
  distinct [] pairs all = tt
  distinct (s ∷ ss) pairs all = (
    apart s (all 0 s (omega arith)) ss (λ k d lt. pairs 0 (suc k) d (omega arith) (omega (arith, lt))) (All-tail (IsAccessible g) s ss all),
    distinct ss (λ i j d lt jl. pairs (suc i) (suc j) d (omega (arith, lt)) (omega (arith, jl))) (All-tail (IsAccessible g) s ss all),
  )

  each : (slots : List Slot) → All (IsAccessible g) slots → (q : ℕ) → list_any (eqb q) (map number_at slots) ≡ true → q < total
  each [] all q h = absurd (true≢false (sym h))
  each (s ∷ ss) all q h = by (eqb q (number_at s)) refl (each ss (All-tail (IsAccessible g) s ss all) q) h
    where
      by : (b : Bool) → eqb q (number_at s) ≡ b → (list_any (eqb q) (map number_at ss) ≡ true → q < total) → (b || list_any (eqb q) (map number_at ss)) ≡ true → q < total
      by true e rest h = subst (λ x. x < total) (sym (eqb-true q (number_at s) e)) (below s (all 0 s (omega arith)))
      by false e rest h = rest h

  pub few_accessible : FewAreAccessible g
  few_accessible slots pairs all =
      let few = length-le_from_distinct_below (map number_at slots) total (distinct slots pairs all) (each slots all) in
      omega (arith, few, length-map slots number_at, t.tables.small)
