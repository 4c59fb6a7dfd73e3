-- What look-ups in the tables of a packed grammar tell of the grammar.
use Rattle.std.proofs.Common.{◌≡◌, ◌↔◌, ℕ, ◌+◌, ◌-◌, ◌<◌, ◌≤◌, Bool, true, false, not, cond, List, length, Contains, slice_index, slice_index_or, refl, sym, ◌∙◌, ap, subst, true≢false}
use Rattle.std.specs.Bool.{IsTrue}
use Rattle.grammar_model.specs.Grammar.{Grammar, Slot}
use Rattle.grammar_model.specs.Analysis.{IsNullable, IsProductive, IsAccessible}
use Rattle.grammar_model.specs.Checked.{IsLeft}
use Rattle.jagged.specs.Rows.{row_at}
use Rattle.slot_analysis.specs.Packed.{place, packed, packed_slot, Occurs}
use Rattle.slot_analysis.specs.Slots.{end_of}
use Rattle.slot_analysis.specs.Tables.{IsAnalysed}
use Rattle.slot_analysis.specs.Tested.{HasTests}
use Rattle.slot_analysis.proofs.Transfer.{nullable_same, productive_same, accessible_to, accessible_from, accessible_occurs, some_level, left_same}
use Rattle.slot_analysis.proofs.Beyond.{beyond_nullable, told, told_beyond, told_reach, no_reach, told_some}
use Rattle.slot_analysis.proofs.Telling.{has_tests, holds, holds_is}

both_ways : (A B C : Type 0) → A ↔ B → B ↔ C → A ↔ C
both_ways A B C f g = (λ a. g.0 (f.0 a), λ c. f.1 (g.1 c))

-- the tables of a grammar, seen by its fields
module _ (g : Grammar) (rows : List (List ℕ)) (bases : List ℕ) (lefts : List Bool) (nullables productives reach : List ℕ) (t : IsAnalysed g rows bases lefts nullables productives reach) where
  abbrev slot : (s l : ℕ) → Slot
  slot s l = record { symbol = s; level = l }

  pub asked_left : (g' : Grammar) (lefts' : List Bool) (s s' : ℕ) (b : Bool) → g ≡ g' → lefts' ≡ lefts → s' ≡ s → (IsTrue b ↔ (slice_index_or lefts' s' false ≡ false)) → IsTrue (not b) ↔ IsLeft g' s
  asked_left g' lefts' s s' b eg el es found =
      let is : slice_index_or lefts' s' false ≡ slice_index_or lefts s false = ap (λ ls. slice_index_or ls s' false) el ∙ ap (λ s. slice_index_or lefts s false) es in
      subst (λ g. IsTrue (not b) ↔ IsLeft g s) eg (both_ways (IsTrue (not b)) (slice_index_or lefts s false ≡ true) (IsLeft g s) (test b (slice_index_or lefts s false) (λ h. sym is ∙ found.0 h) (λ h. found.1 (is ∙ h)))
      (both_ways (slice_index_or lefts s false ≡ true) (IsLeft (packed rows g) s) (IsLeft g s) (t.tables.left s) (left_same g rows t.written t.levels s)))
    where
      test : (b c : Bool) → (IsTrue b → c ≡ false) → (c ≡ false → IsTrue b) → IsTrue (not b) ↔ (c ≡ true)
      test true true to from = absurd (true≢false (to refl))
      test true false to from = (λ h. absurd (true≢false (sym h)), λ h. absurd (true≢false (sym h)))
      test false true to from = (λ h. refl, λ h. refl)
      test false false to from = absurd (true≢false (sym (from refl)))

  module _ (g' : Grammar) (rows' : List (List ℕ)) (bases' : List ℕ) (s s' l q : ℕ) (eg : g ≡ g') (er : rows' ≡ rows) (eb : bases' ≡ bases) (es : s' ≡ s) (known : s < length g'.names) (eq : q ≡ place rows' s' l) where
    at_is : q ≡ place rows s l
    at_is = eq ∙ (ap (λ r. place r s' l) er ∙ ap (λ s. place rows s l) es)

    known_here : s < length g.names
    known_here = subst (λ g. s < length g.names) (sym eg) known

    pub asked_nullable : (x : ℕ) (b : Bool) → (x ≡ slice_index bases' s' + q) × (x < end_of bases' s') → (IsTrue b ↔ Contains nullables x) → IsTrue b ↔ IsNullable g' (slot s l)
    asked_nullable x b (is, small) found =
        let here = told true (packed rows g) (packed rows g) bases bases' nullables x s s' q b refl eb es t.tables.nullable known_here is small found in
        subst (λ g. IsTrue b ↔ IsNullable g (slot s l)) eg (both_ways (IsTrue b) (IsNullable (packed rows g) (packed_slot rows (slot s l))) (IsNullable g (slot s l)) (subst (λ q. IsTrue b ↔ IsNullable (packed rows g) (slot s q)) at_is here) (nullable_same g rows t.written t.levels (slot s l)))

    out : end_of bases' s' ≤ slice_index bases' s' + q → end_of bases s ≤ slice_index bases s + q
    out beyond = subst (λ s. end_of bases s ≤ slice_index bases s + q) es (subst (λ bs. end_of bs s' ≤ slice_index bs s' + q) eb beyond)

    pub never_nullable : end_of bases' s' ≤ slice_index bases' s' + q → IsTrue false ↔ IsNullable g' (slot s l)
    never_nullable beyond = (
      λ h. absurd (true≢false (sym h)),
      λ h. (let here = (nullable_same g rows t.written t.levels (slot s l)).1 (subst (λ g. IsNullable g (slot s l)) (sym eg) h) in
          absurd (beyond_nullable (packed rows g) bases s q t.tables.written t.tables.numbering (out beyond) (subst (λ q. IsNullable (packed rows g) (slot s q)) (sym at_is) here))),
    )

    pub asked_productive : (x : ℕ) (b : Bool) → (x ≡ slice_index bases' s' + q) × (x < end_of bases' s') → (IsTrue b ↔ Contains productives x) → IsTrue b ↔ IsProductive g' (slot s l)
    asked_productive x b (is, small) found =
        let here = told false (packed rows g) (packed rows g) bases bases' productives x s s' q b refl eb es t.tables.productive known_here is small found in
        subst (λ g. IsTrue b ↔ IsProductive g (slot s l)) eg (both_ways (IsTrue b) (IsProductive (packed rows g) (packed_slot rows (slot s l))) (IsProductive g (slot s l)) (subst (λ q. IsTrue b ↔ IsProductive (packed rows g) (slot s q)) at_is here) (productive_same g rows t.written t.levels (slot s l)))

    pub beyond_asked : (lefts' : List Bool) (b : Bool) → lefts' ≡ lefts → end_of bases' s' ≤ slice_index bases' s' + q → (IsTrue b ↔ (slice_index_or lefts' s' false ≡ false)) → IsTrue b ↔ IsProductive g' (slot s l)
    beyond_asked lefts' b el beyond found =
        let here = told_beyond (packed rows g) (packed rows g) bases bases' nullables productives reach lefts lefts' s s' q b refl eb el es t.tables beyond found in
        subst (λ g. IsTrue b ↔ IsProductive g (slot s l)) eg (both_ways (IsTrue b) (IsProductive (packed rows g) (packed_slot rows (slot s l))) (IsProductive g (slot s l)) (subst (λ q. IsTrue b ↔ IsProductive (packed rows g) (slot s q)) at_is here) (productive_same g rows t.written t.levels (slot s l)))

    occurs_here : Contains (row_at rows' s') l → Occurs rows (slot s l)
    occurs_here c = subst (λ s. Contains (row_at rows s) l) es (subst (λ r. Contains (row_at r s') l) er c)

    pub asked_accessible : (x : ℕ) (b : Bool) → Contains (row_at rows' s') l → (x ≡ slice_index bases' s' + q) × (x < end_of bases' s') → (IsTrue b ↔ Contains reach x) → IsTrue b ↔ IsAccessible g' (slot s l)
    asked_accessible x b held (is, small) found =
        let here = told_reach (packed rows g) (packed rows g) bases bases' reach x s s' q b refl eb es t.tables.reached known_here is small found in
        subst (λ g. IsTrue b ↔ IsAccessible g (slot s l)) eg (both_ways (IsTrue b) (IsAccessible (packed rows g) (packed_slot rows (slot s l))) (IsAccessible g (slot s l)) (subst (λ q. IsTrue b ↔ IsAccessible (packed rows g) (slot s q)) at_is here)
        (accessible_from g rows t.written t.levels (slot s l) (occurs_here held), accessible_to g rows t.written t.levels (slot s l)))

    pub never_accessible : end_of bases' s' ≤ slice_index bases' s' + q → IsTrue false ↔ IsAccessible g' (slot s l)
    never_accessible beyond = (
      λ h. absurd (true≢false (sym h)),
      λ h. (let here = accessible_to g rows t.written t.levels (slot s l) (subst (λ g. IsAccessible g (slot s l)) (sym eg) h) in
          absurd (no_reach (packed rows g) (packed rows g) bases bases' s s' q refl eb es t.tables.written t.tables.numbering beyond (subst (λ q. IsAccessible (packed rows g) (slot s q)) (sym at_is) here))),
    )

  pub absent_level : (g' : Grammar) (rows' : List (List ℕ)) (s s' l : ℕ) (b : Bool) → g ≡ g' → rows' ≡ rows → s' ≡ s → b ≡ false → (IsTrue b ↔ Contains (row_at rows' s') l) → IsTrue false ↔ IsAccessible g' (slot s l)
  absent_level g' rows' s s' l b eg er es off test = (
    λ h. absurd (true≢false (sym h)),
    λ h. (let (m, acc) = subst (λ g. IsAccessible g (slot s l)) (sym eg) h in
        let c = accessible_occurs g rows t.written t.levels m (slot s l) acc in
        let there = subst (λ r. Contains (row_at r s') l) (sym er) (subst (λ s. Contains (row_at rows s) l) (sym es) c) in
        absurd (true≢false (sym (test.1 there) ∙ off))),
  )

  pub asked_some : (g' : Grammar) (x s : ℕ) (b : Bool) → g ≡ g' → s < length g'.names → x ≡ slice_index bases (length g.names) + (end_of bases s - 1) → (IsTrue b ↔ Contains reach x) → IsTrue b ↔ ((l : ℕ) × IsAccessible g' (slot s l))
  asked_some g' x s b eg known is found =
      let here = told_some (packed rows g) (packed rows g) bases reach x s b refl t.tables.reached t.tables.numbering (subst (λ g. s < length g.names) (sym eg) known) is found in
      subst (λ g. IsTrue b ↔ ((l : ℕ) × IsAccessible g (slot s l))) eg (both_ways (IsTrue b) ((l : ℕ) × IsAccessible (packed rows g) (slot s l)) ((l : ℕ) × IsAccessible g (slot s l)) here (some_level g rows t.written t.levels s))

  -- the tests of the packed grammar give those of the grammar
  pub all_tested : HasTests g
  all_tested =
      let p = has_tests (packed rows g) bases lefts nullables productives reach t.tables in
      record {
        nullable = λ s. p.nullable (packed_slot rows s);
        nullable_is = λ s. both_ways (p.nullable (packed_slot rows s) ≡ true) (IsNullable (packed rows g) (packed_slot rows s)) (IsNullable g s) (p.nullable_is (packed_slot rows s)) (nullable_same g rows t.written t.levels s);
        productive = λ s. p.productive (packed_slot rows s);
        productive_is = λ s. both_ways (p.productive (packed_slot rows s) ≡ true) (IsProductive (packed rows g) (packed_slot rows s)) (IsProductive g s) (p.productive_is (packed_slot rows s)) (productive_same g rows t.written t.levels s);
        accessible = λ s. cond (holds (row_at rows s.symbol) s.level) (p.accessible (packed_slot rows s)) false;
        accessible_is = λ s. by s (holds (row_at rows s.symbol) s.level) (p.accessible (packed_slot rows s)) (holds_is (row_at rows s.symbol) s.level) (p.accessible_is (packed_slot rows s));
      }
    where
      by : (s : Slot) (b a : Bool) → (b ≡ true) ↔ Occurs rows s → (a ≡ true) ↔ IsAccessible (packed rows g) (packed_slot rows s) → (cond b a false ≡ true) ↔ IsAccessible g s
      by s true a c h = (λ e. accessible_from g rows t.written t.levels s (c.0 refl) (h.0 e), λ i. h.1 (accessible_to g rows t.written t.levels s i))
      by s false a c h = (λ e. absurd (true≢false (sym e)), λ (m, acc). c.1 (accessible_occurs g rows t.written t.levels m s acc))
