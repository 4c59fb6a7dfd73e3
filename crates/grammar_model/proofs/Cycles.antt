-- Along a walk heights fall, so it does not come back to its first slot.
use Rattle.std.proofs.Common.{◌≡◌, ℕ, zero, suc, ◌<◌, ◌-◌, List, [], ◌∷◌, length, Option, Some, None, sym, ap, ◌∙◌, subst, arith}
use Rattle.std.specs.Prelude.{slice_get}
use Rattle.grammar_model.specs.Grammar.{Grammar, Slot}
use Rattle.grammar_model.specs.Cycles.{IsWalk, IsCyclic, HasHeights}

abbrev BelowAt : (Slot → ℕ) → ℕ → Option Slot → Type 0
BelowAt height n None = Unit {0}
BelowAt height n (Some s) = height s < n

module _ (g : Grammar) (h : HasHeights g) where
  lower : (m n : ℕ) (o : Option Slot) → m < n → BelowAt h.height m o → BelowAt h.height n o
  lower m n None lt b = tt
  lower m n (Some s) lt b = omega arith

  falls_along : (s : Slot) (rest : List Slot) (k : ℕ) → IsWalk g (s ∷ rest) → BelowAt h.height (h.height s) (slice_get rest k)
  falls_along s [] k w = tt
  falls_along s (t ∷ []) zero w = h.falls s t w.0 w.1 w.2
  falls_along s (t ∷ []) (suc k) w = tt
  falls_along s (t ∷ u ∷ rest) zero w = h.falls s t w.0 w.1 w.2
  falls_along s (t ∷ u ∷ rest) (suc k) w = lower (h.height t) (h.height s) (slice_get (u ∷ rest) k) (h.falls s t w.0 w.1 w.2) (falls_along t (u ∷ rest) k w.3)

  pub no_cycle : IsCyclic g → ⊥
  no_cycle ([], c) = let l = c.long in omega arith
  no_cycle (s ∷ [], c) = let l = c.long in omega arith
  no_cycle (s ∷ t ∷ rest, c) =
      let e : length (s ∷ t ∷ rest) - 1 ≡ suc (length rest) = omega arith in
      let back : Some s ≡ slice_get (t ∷ rest) (length rest) = c.closed ∙ ap (slice_get (s ∷ t ∷ rest)) e in
      let less : BelowAt h.height (h.height s) (Some s) = subst (BelowAt h.height (h.height s)) (sym back) (falls_along s (t ∷ rest) (length rest) c.walk) in
      let f : h.height s < h.height s = less in
      omega arith
