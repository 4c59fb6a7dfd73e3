-- The least set of the steps is what is accessible.
use Rattle.std.proofs.Common.{arith, ◌≡◌, ◌↔◌, inl, inr, ℕ, zero, suc, ◌+◌, ◌-◌, ◌<◌, ◌≤◌, List, [], ◌∷◌, length, All, Contains, slice_index, refl, sym, ◌∙◌, ap, subst}
use Rattle.std.proofs.lemmas.List.{get_or_default}
use Rattle.std.proofs.lemmas.List.Elements.{Contains-get_or}
use Rattle.grammar_model.specs.Grammar.{Grammar, Slot, slot_of, rule_at, lhs_of, level_of, child_slot}
use Rattle.grammar_model.specs.Analysis.{IsProductive, IsAccessibleIn, IsAccessible}
use Rattle.grammar_core.specs.Written.{IsWritten}
use Rattle.horn_clauses.specs.Least.{Clause, clause_at, AreBelow, IsDerivedIn, IsClosed, IsLeastSet}
use Rattle.slot_analysis.specs.Slots.{number, end_of, IsNumbering, IsNumbered, fact_clause}
use Rattle.slot_analysis.specs.Steps.{unit_clause, head_of, IsStep, IsReach}
use Rattle.grammar_core.proofs.Known.{lhs_known}
use Rattle.slot_analysis.proofs.Known.{head_numbered, child_numbered}
use Rattle.slot_analysis.proofs.Rounds.{bases_rise, one_symbol, closed_by}
use Rattle.slot_analysis.proofs.StepLemmas.{head_small}

one_in : (keys : List ℕ) (x : ℕ) → Contains keys x → All (Contains keys) (x ∷ [])
one_in keys x h zero d lt = h
one_in keys x h (suc k) d lt = absurd (omega (arith, lt))

one_low : (bound x : ℕ) → x < bound → All (λ x. x < bound) (x ∷ [])
one_low bound x h zero d lt = h
one_low bound x h (suc k) d lt = absurd (omega (arith, lt))

pub start_known : (g : Grammar) (k : ℕ) → IsWritten g → k < length g.starts → slice_index g.starts k < length g.names
start_known g k w lt = w.starts_known k 0 lt

module _ (g : Grammar) (bases : List ℕ) (n : IsNumbering g bases) where
  pub numbered_small : (slot : Slot) → IsNumbered g bases slot → number bases slot < slice_index bases (length g.names)
  numbered_small slot (known, small) = let h = bases_rise g bases slot.symbol (length g.names) n known (omega arith) in omega (arith, h, small)

  -- a number is that of one slot
  pub same_slot : (slot other : Slot) → IsNumbered g bases slot → IsNumbered g bases other → number bases slot ≡ number bases other → slot ≡ other
  same_slot slot other (k1, s1) (k2, s2) e =
      let es = one_symbol g bases slot.symbol other.symbol (number bases slot) n k1 k2 (omega arith) s1 (omega (arith, e)) (omega (arith, e, s2)) in
      let el : slot.level ≡ other.level = omega (arith, e, ap (slice_index bases) es) in
      λ i. record { symbol = es i; level = el i }

  start_numbered : (s : ℕ) → s < length g.names → IsNumbered g bases (slot_of s)
  start_numbered s known = (known, (let h = n.rising s known in omega (arith, h)))

abbrev Low : Grammar → List ℕ → Clause → Type 0
Low g bases c = (c.head < slice_index bases (length g.names) + slice_index bases (length g.names)) × All (λ x. x < slice_index bases (length g.names) + slice_index bases (length g.names)) c.body

module _ (g : Grammar) (bases : List ℕ) (cs : List Clause) (w : IsWritten g) (n : IsNumbering g bases) (steps : (c : Clause) → Contains cs c ↔ IsStep g bases (slice_index bases (length g.names)) c) where
  abbrev Sound : ℕ → ℕ → Type 0
  Sound r y = ((slot : Slot) → IsNumbered g bases slot → number bases slot ≡ y → IsAccessible g slot)
      × ((slot : Slot) → IsNumbered g bases slot → slice_index bases (length g.names) + number bases slot ≡ y → (l : ℕ) × (l ≤ slot.level) × IsAccessible g (record { symbol = slot.symbol; level = l }))

  pub sound : (r y : ℕ) → IsDerivedIn r cs y → Sound r y
  sound zero y h = absurd h
  sound (suc r) y (j, jl, e, all) = elim ((steps (clause_at cs j)).0 (Contains-get_or cs j (record { head = 0; body = [] }) jl)) [
    | inl (k, kl, is) ↦
        let s = slice_index g.starts k in
        let known = start_known g k w kl in
        let num = start_numbered g bases n s known in
        let at : slice_index bases s ≡ y = sym (ap (λ c. c.head) is) ∙ e in (
          (λ slot numbered e'.
              let same = same_slot g bases n slot (slot_of s) numbered num (omega (arith, e', at)) in
              (0, (s, (k, kl, get_or_default g.starts k s 0 kl), same))),
          (λ slot numbered e'. let small = numbered_small g bases n (slot_of s) num in absurd (omega (arith, e', at, small))),
        )
    | inr (inl (x, xl, is)) ↦
        let at : slice_index bases (length g.names) + x ≡ y = sym (ap (λ c. c.head) is) ∙ e in
        let d = subst (λ c. All (IsDerivedIn r cs) c.body) is all 0 0 (omega arith) in (
          (λ slot numbered e'. let small = numbered_small g bases n slot numbered in absurd (omega (arith, e', at, small))),
          (λ slot numbered e'. (slot.level, omega arith, (sound r x d).0 slot numbered (omega (arith, e', at)))),
        )
    | inr (inr (inl (s, sl, (x, from, to, is)))) ↦
        let at : slice_index bases (length g.names) + suc x ≡ y = sym (ap (λ c. c.head) is) ∙ e in
        let d = subst (λ c. All (IsDerivedIn r cs) c.body) is all 0 0 (omega arith) in (
          (λ slot numbered e'. let small = numbered_small g bases n slot numbered in absurd (omega (arith, e', at, small))),
          (λ slot numbered e'.
              let here : number bases slot ≡ suc x = omega (arith, e', at) in
              let same = one_symbol g bases slot.symbol s (suc x) n numbered.0 sl (omega (arith, here)) (omega (arith, here, numbered.1)) (omega (arith, from)) to in
              let bs = ap (slice_index bases) same in
              let looser : Slot = record { symbol = slot.symbol; level = slot.level - 1 } in
              let (l, le, acc) = (sound r (slice_index bases (length g.names) + x) d).1 looser (numbered.0, omega (arith, numbered.1)) (omega (arith, here, from, bs)) in
              (l, omega (arith, le), acc)),
        )
    | inr (inr (inr (i, il, live, (k, kl, prod, is)))) ↦
        let child = child_slot (rule_at g i) k in
        let num = child_numbered g bases i k w n il kl in
        let at : number bases child ≡ y = sym (ap (λ c. c.head) is) ∙ e in
        let d = subst (λ c. All (IsDerivedIn r cs) c.body) is all 0 0 (omega arith) in
        let head : Slot = record { symbol = lhs_of (rule_at g i); level = level_of (rule_at g i) } in (
          (λ slot numbered e'.
              let same = same_slot g bases n slot child numbered num (omega (arith, e', at)) in
              let (l, le, (m, acc)) = (sound r (slice_index bases (length g.names) + head_of g bases i) d).1 head (lhs_known g i w il, head_numbered g bases i w n il) refl in
              (suc m, subst (IsAccessibleIn (suc m) g) (sym same) (record { symbol = lhs_of (rule_at g i); level = l }, acc, prod, (i, il, (refl, le), (live, (k, kl, refl)))))),
          (λ slot numbered e'. let small = numbered_small g bases n child num in absurd (omega (arith, e', at, small))),
        )
  ]

  pub below : AreBelow (slice_index bases (length g.names) + slice_index bases (length g.names)) cs
  below j jl = by (clause_at cs j) ((steps (clause_at cs j)).0 (Contains-get_or cs j (record { head = 0; body = [] }) jl))
    where
      by : (c : Clause) → IsStep g bases (slice_index bases (length g.names)) c → (c.head < slice_index bases (length g.names) + slice_index bases (length g.names)) × All (λ x. x < slice_index bases (length g.names) + slice_index bases (length g.names)) c.body
      by c (inl (k, kl, is)) = subst (λ c. Low g bases c) (sym is)
          ((let h = numbered_small g bases n (slot_of (slice_index g.starts k)) (start_numbered g bases n (slice_index g.starts k) (start_known g k w kl)) in omega (arith, h)), (λ k d lt. absurd (omega (arith, lt))))
      by c (inr (inl (x, xl, is))) = subst (λ c. Low g bases c) (sym is) (omega (arith, xl), one_low (slice_index bases (length g.names) + slice_index bases (length g.names)) x (omega (arith, xl)))
      by c (inr (inr (inl (s, sl, (x, from, to, is))))) = subst (λ c. Low g bases c) (sym is)
          (let h = bases_rise g bases s (length g.names) n sl (omega arith) in (omega (arith, h, to), one_low (slice_index bases (length g.names) + slice_index bases (length g.names)) (slice_index bases (length g.names) + x) (omega (arith, h, to))))
      by c (inr (inr (inr (i, il, live, (k, kl, prod, is))))) = subst (λ c. Low g bases c) (sym is) (
        (let h = numbered_small g bases n (child_slot (rule_at g i) k) (child_numbered g bases i k w n il kl) in omega (arith, h)),
        one_low (slice_index bases (length g.names) + slice_index bases (length g.names)) (slice_index bases (length g.names) + head_of g bases i) (let h = head_small g bases i w n il in omega (arith, h)),
      )

  module _ (keys : List ℕ) (closed : IsClosed cs keys) where
    use_of : (x : ℕ) → x < slice_index bases (length g.names) → Contains keys x → Contains keys (slice_index bases (length g.names) + x)
    use_of x lt h = closed_by cs keys (unit_clause (slice_index bases (length g.names) + x) x) closed ((steps (unit_clause (slice_index bases (length g.names) + x) x)).1 (inr (inl (x, lt, refl)))) (one_in keys x h)

    -- what is in use at a level is so at the tighter ones
    up : (d s l : ℕ) → s < length g.names → slice_index bases s + (l + d) < end_of bases s → Contains keys (slice_index bases (length g.names) + (slice_index bases s + l)) → Contains keys (slice_index bases (length g.names) + (slice_index bases s + (l + d)))
    up zero s l known small h = subst (λ m. Contains keys (slice_index bases (length g.names) + (slice_index bases s + m))) (let z : l ≡ l + 0 = omega arith in z) h
    up (suc d) s l known small h =
        let x = slice_index bases s + (l + d) in
        let next : suc x ≡ slice_index bases s + (l + suc d) = omega arith in
        let before = up d s l known (omega (arith, next, small)) h in
        let c = unit_clause (slice_index bases (length g.names) + suc x) (slice_index bases (length g.names) + x) in
        subst (λ y. Contains keys (slice_index bases (length g.names) + y)) next
        (closed_by cs keys c closed ((steps c).1 (inr (inr (inl (s, known, (x, omega arith, omega (arith, next, small), refl)))))) (one_in keys (slice_index bases (length g.names) + x) before))

    up_to : (slot : Slot) (m : ℕ) → IsNumbered g bases slot → slot.level ≤ m → slice_index bases slot.symbol + m < end_of bases slot.symbol → Contains keys (number bases slot) → Contains keys (slice_index bases (length g.names) + (slice_index bases slot.symbol + m))
    up_to slot m numbered le small h =
        let e : slot.level + (m - slot.level) ≡ m = omega (arith, le) in
        subst (λ m. Contains keys (slice_index bases (length g.names) + (slice_index bases slot.symbol + m))) e
        (up (m - slot.level) slot.symbol slot.level numbered.0 (omega (arith, e, small)) (use_of (number bases slot) (numbered_small g bases n slot numbered) h))

    pub complete : (m : ℕ) (slot : Slot) → IsAccessibleIn m g slot → IsNumbered g bases slot × Contains keys (number bases slot)
    complete zero slot (s, (k, kl, e), is) =
        let start : slice_index g.starts k ≡ s = get_or_default g.starts k 0 s kl ∙ e in
        let known = subst (λ s. s < length g.names) start (start_known g k w kl) in
        let c = fact_clause (slice_index bases (slice_index g.starts k)) in
        let found = closed_by cs keys c closed ((steps c).1 (inl (k, kl, refl))) (λ k d lt. absurd (omega (arith, lt))) in
        subst (λ slot. IsNumbered g bases slot × Contains keys (number bases slot)) (sym is)
        (start_numbered g bases n s known, subst (Contains keys) (let z : slice_index bases (slice_index g.starts k) ≡ slice_index bases s + 0 = omega (arith, ap (slice_index bases) start) in z) found)
    complete (suc m) slot (above, acc, prod, (i, il, (e, fits), (live, (k, kl, is)))) =
        let (numbered, found) = complete m above acc in
        let child = child_slot (rule_at g i) k in
        let within = head_numbered g bases i w n il in
        let bs = ap (slice_index bases) e in
        let used = up_to above (level_of (rule_at g i)) numbered fits (omega (arith, within, bs, ap (end_of bases) e)) found in
        let at : slice_index bases above.symbol + level_of (rule_at g i) ≡ head_of g bases i = omega (arith, bs) in
        let c = unit_clause (number bases child) (slice_index bases (length g.names) + head_of g bases i) in
        let there = closed_by cs keys c closed ((steps c).1 (inr (inr (inr (i, il, live, (k, kl, subst (IsProductive g) (sym is) prod, refl)))))) (one_in keys (slice_index bases (length g.names) + head_of g bases i) (subst (λ y. Contains keys (slice_index bases (length g.names) + y)) at used)) in
        subst (λ slot. IsNumbered g bases slot × Contains keys (number bases slot)) is (child_numbered g bases i k w n il kl, there)

  pub reached : (keys : List ℕ) → IsLeastSet cs keys → IsReach g bases keys
  reached keys least = record {
    exact = λ slot numbered. (
      λ h. let (r, d) = least.derived (number bases slot) h in (sound r (number bases slot) d).0 slot numbered refl,
      λ (m, acc). (complete keys least.closed m slot acc).1,
    );
    some = λ s x known e. (
      λ h.
          let (r, d) = least.derived (slice_index bases (length g.names) + x) h in
          let rise = n.rising s known in
          let top : Slot = record { symbol = s; level = x - slice_index bases s } in
          let (l, le, acc) = (sound r (slice_index bases (length g.names) + x) d).1 top (known, omega (arith, e, rise)) (omega (arith, e, rise)) in (l, acc),
      λ (l, (m, acc)).
          let slot : Slot = record { symbol = s; level = l } in
          let (numbered, found) = complete keys least.closed m slot acc in
          let top : slice_index bases s + (x - slice_index bases s) ≡ x = (let rise = n.rising s known in omega (arith, e, rise)) in
          subst (λ y. Contains keys (slice_index bases (length g.names) + y)) top
          (up_to keys least.closed slot (x - slice_index bases s) numbered (omega (arith, numbered.1, e, top)) (omega (arith, e, top)) found),
    );
  }
