-- Slots beyond the numbered levels fit no rule.
use Rattle.std.proofs.Common.{arith, ◌≡◌, ◌⊎◌, inl, inr, ℕ, zero, suc, ◌+◌, ◌-◌, ◌<◌, ◌≤◌, Bool, true, false, length, slice_index, List, ap, sym, subst, ◌∙◌, ◌↔◌, refl, Contains, slice_index_or, true≢false}
use Rattle.std.specs.Bool.{IsTrue}
use Rattle.slot_analysis.specs.Clauses.{Can, IsAnalysis}
use Rattle.slot_analysis.specs.Tables.{AreTables}
use Rattle.grammar_model.specs.Grammar.{Grammar, Slot, WrittenRule, IsTerminal, EachChildSlot}
use Rattle.grammar_model.specs.Analysis.{SomeRule, IsStar, EachNeeded, IsNullableIn, IsNullable, IsProductiveIn, IsProductive, IsAccessibleIn, IsAccessible}
use Rattle.grammar_core.specs.Written.{IsWritten}
use Rattle.slot_analysis.specs.Slots.{end_of, IsNumbering, IsNumbered}
use Rattle.slot_analysis.proofs.Known.{head_numbered, child_numbered}
use Rattle.slot_analysis.specs.Steps.{IsReach}
use Rattle.slot_analysis.proofs.Rounds.{bases_rise}

module _ (g : Grammar) (bases : List ℕ) (s l : ℕ) (w : IsWritten g) (n : IsNumbering g bases) (beyond : end_of bases s ≤ slice_index bases s + l) where
  no_rule_fits : (P : WrittenRule → Type 0) → SomeRule g (record { symbol = s; level = l }) P → ⊥
  no_rule_fits P (i, lt, (e, fits), p) =
      let h = head_numbered g bases i w n lt in
      omega (arith, h, beyond, fits, ap (slice_index bases) e, ap (end_of bases) e)

  pub beyond_nullable : IsNullable g (record { symbol = s; level = l }) → ⊥
  beyond_nullable (zero, h) = h
  beyond_nullable (suc k, h) = no_rule_fits (λ rule. IsStar rule ⊎ EachChildSlot (IsNullableIn k g) rule) h

  pub beyond_productive : IsProductive g (record { symbol = s; level = l }) → IsTerminal g s
  beyond_productive (zero, h) = h
  beyond_productive (suc k, inl h) = h
  beyond_productive (suc k, inr h) = absurd (no_rule_fits (λ rule. IsStar rule ⊎ EachNeeded (IsProductiveIn k g) rule) h)

-- what a look-up tells of a slot
pub told : (seps : Bool) (g g' : Grammar) (bases bases' keys : List ℕ) (x s s' l : ℕ) (b : Bool) → g ≡ g' → bases' ≡ bases → s' ≡ s → IsAnalysis seps g bases keys → s < length g'.names →
    x ≡ slice_index bases' s' + l → x < end_of bases' s' → (IsTrue b ↔ Contains keys x) → IsTrue b ↔ Can seps g' (record { symbol = s; level = l })
told seps g g' bases bases' keys x s s' l b eg eb es a known is small found =
    let slot : Slot = record { symbol = s; level = l } in
    let at : x ≡ slice_index bases s + l = subst (λ s. x ≡ slice_index bases s + l) es (subst (λ bs. x ≡ slice_index bs s' + l) eb is) in
    let under : x < end_of bases s = subst (λ s. x < end_of bases s) es (subst (λ bs. x < end_of bs s') eb small) in
    let num : IsNumbered g bases slot = (subst (λ g. s < length g.names) (sym eg) known, subst (λ y. y < end_of bases s) at under) in
    subst (λ g. IsTrue b ↔ Can seps g slot) eg (
      λ t. (a.exact slot num).0 (subst (Contains keys) at (found.0 t)),
      λ h. found.1 (subst (Contains keys) (sym at) ((a.exact slot num).1 h)),
    )

-- a slot without a number is productive where its symbol is a terminal
pub told_beyond : (g g' : Grammar) (bases bases' keys1 keys2 keys3 : List ℕ) (lefts lefts' : List Bool) (s s' l : ℕ) (b : Bool) → g ≡ g' → bases' ≡ bases → lefts' ≡ lefts → s' ≡ s → AreTables g bases lefts keys1 keys2 keys3 →
    end_of bases' s' ≤ slice_index bases' s' + l → (IsTrue b ↔ (slice_index_or lefts' s' false ≡ false)) → IsTrue b ↔ IsProductive g' (record { symbol = s; level = l })
told_beyond g g' bases bases' keys1 keys2 keys3 lefts lefts' s s' l b eg eb el es tables beyond found =
    let out : end_of bases s ≤ slice_index bases s + l = subst (λ s. end_of bases s ≤ slice_index bases s + l) es (subst (λ bs. end_of bs s' ≤ slice_index bs s' + l) eb beyond) in
    let is : slice_index_or lefts' s' false ≡ slice_index_or lefts s false = ap (λ ls. slice_index_or ls s' false) el ∙ ap (λ s. slice_index_or lefts s false) es in
    subst (λ g. IsTrue b ↔ IsProductive g (record { symbol = s; level = l })) eg (
      λ t. (0, λ i lt same. true≢false (sym ((tables.left s).1 (i, lt, same)) ∙ (sym is ∙ found.0 t))),
      λ h. found.1 (is ∙ none (slice_index_or lefts s false) refl (beyond_productive g bases s l tables.written tables.numbering out h)),
    )
  where
    none : (b : Bool) → slice_index_or lefts s false ≡ b → IsTerminal g s → slice_index_or lefts s false ≡ false
    none true e t = let (i, lt, same) = (tables.left s).0 e in absurd (t i lt same)
    none false e t = e

pub accessible_numbered : (m : ℕ) (g : Grammar) (bases : List ℕ) (slot : Slot) → IsWritten g → IsNumbering g bases → IsAccessibleIn m g slot → IsNumbered g bases slot
accessible_numbered zero g bases slot w n (s, (k, kl, e), is) =
    let known : s < length g.names = subst (λ s. s < length g.names) e (w.starts_known k s kl) in
    subst (IsNumbered g bases) (sym is) (known, (let h = n.rising s known in omega (arith, h)))
accessible_numbered (suc m) g bases slot w n (above, acc, prod, (i, il, fits, (live, (k, kl, is)))) = subst (IsNumbered g bases) is (child_numbered g bases i k w n il kl)

-- what a look-up tells of a slot that may be accessible
pub told_reach : (g g' : Grammar) (bases bases' keys : List ℕ) (x s s' l : ℕ) (b : Bool) → g ≡ g' → bases' ≡ bases → s' ≡ s → IsReach g bases keys → s < length g'.names →
    x ≡ slice_index bases' s' + l → x < end_of bases' s' → (IsTrue b ↔ Contains keys x) → IsTrue b ↔ IsAccessible g' (record { symbol = s; level = l })
told_reach g g' bases bases' keys x s s' l b eg eb es a known is small found =
    let slot : Slot = record { symbol = s; level = l } in
    let at : x ≡ slice_index bases s + l = subst (λ s. x ≡ slice_index bases s + l) es (subst (λ bs. x ≡ slice_index bs s' + l) eb is) in
    let under : x < end_of bases s = subst (λ s. x < end_of bases s) es (subst (λ bs. x < end_of bs s') eb small) in
    let num : IsNumbered g bases slot = (subst (λ g. s < length g.names) (sym eg) known, subst (λ y. y < end_of bases s) at under) in
    subst (λ g. IsTrue b ↔ IsAccessible g slot) eg (
      λ t. (a.exact slot num).0 (subst (Contains keys) at (found.0 t)),
      λ h. found.1 (subst (Contains keys) (sym at) ((a.exact slot num).1 h)),
    )

-- a slot without a number is not accessible
pub no_reach : (g g' : Grammar) (bases bases' : List ℕ) (s s' l : ℕ) → g ≡ g' → bases' ≡ bases → s' ≡ s → IsWritten g → IsNumbering g bases → end_of bases' s' ≤ slice_index bases' s' + l → IsAccessible g' (record { symbol = s; level = l }) → ⊥
no_reach g g' bases bases' s s' l eg eb es w n beyond h =
    let out : end_of bases s ≤ slice_index bases s + l = subst (λ s. end_of bases s ≤ slice_index bases s + l) es (subst (λ bs. end_of bs s' ≤ slice_index bs s' + l) eb beyond) in
    let (m, acc) = subst (λ g. IsAccessible g (record { symbol = s; level = l })) (sym eg) h in
    let num = accessible_numbered m g bases (record { symbol = s; level = l }) w n acc in
    omega (arith, out, num.1)

pub told_some : (g g' : Grammar) (bases keys : List ℕ) (x s : ℕ) (b : Bool) → g ≡ g' → IsReach g bases keys → IsNumbering g bases → s < length g'.names → x ≡ slice_index bases (length g.names) + (end_of bases s - 1) → (IsTrue b ↔ Contains keys x) →
    IsTrue b ↔ ((l : ℕ) × IsAccessible g' (record { symbol = s; level = l }))
told_some g g' bases keys x s b eg a n known is found =
    let known' = subst (λ g. s < length g.names) (sym eg) known in
    let both = a.some s (end_of bases s - 1) known' (let h = n.rising s known' in omega (arith, h)) in
    subst (λ g. IsTrue b ↔ ((l : ℕ) × IsAccessible g (record { symbol = s; level = l }))) eg (
      λ t. both.0 (subst (Contains keys) is (found.0 t)),
      λ h. found.1 (subst (Contains keys) (sym is) (both.1 h)),
    )

pub last_order : (g g' : Grammar) (bases bases' : List ℕ) (s s' : ℕ) → g ≡ g' → bases' ≡ bases → s' ≡ s → IsNumbering g bases → s < length g'.names → end_of bases' s' ≤ slice_index bases' (length bases' - 1)
last_order g g' bases bases' s s' eg eb es n known =
    let known' = subst (λ g. s < length g.names) (sym eg) known in
    let h = bases_rise g bases s (length g.names) n known' (omega arith) in
    let last : length g.names ≡ length bases - 1 = omega (arith, n.sized) in
    subst (λ bs. end_of bs s' ≤ slice_index bs (length bs - 1)) (sym eb) (subst (λ s. end_of bases s ≤ slice_index bases (length bases - 1)) (sym es) (subst (λ m. end_of bases s ≤ slice_index bases m) last h))

pub last_is : (g : Grammar) (bases bases' : List ℕ) (x s s' : ℕ) → bases' ≡ bases → s' ≡ s → IsNumbering g bases → x ≡ slice_index bases' (length bases' - 1) + (end_of bases' s' - 1) → x ≡ slice_index bases (length g.names) + (end_of bases s - 1)
last_is g bases bases' x s s' eb es n e =
    let last : length bases - 1 ≡ length g.names = omega (arith, n.sized) in
    subst (λ m. x ≡ slice_index bases m + (end_of bases s - 1)) last (subst (λ s. x ≡ slice_index bases (length bases - 1) + (end_of bases s - 1)) es (subst (λ bs. x ≡ slice_index bs (length bs - 1) + (end_of bs s' - 1)) eb e))
