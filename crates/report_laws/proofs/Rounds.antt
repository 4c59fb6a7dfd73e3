-- A slot is productive where a live rule fits it.
use Rattle.std.proofs.Common.{◌≡◌, ℕ, zero, suc, ◌<◌, ◌+◌, length, ◌⊎◌, inl, inr, sym, subst, arith}
use Rattle.std.proofs.lemmas.Bool.{cases_eq}
use Rattle.grammar_model.specs.Grammar.{Grammar, Slot, WrittenRule, Plain, Sequence, slot_of, rule_at, child_slot, Fits}
use Rattle.grammar_model.specs.Analysis.{IsProductive, IsProductiveIn, EachNeeded, IsLive}

module _ (g : Grammar) where
  each_needed : (P Q : Slot → Type 0) (rule : WrittenRule) → ((s : Slot) → P s → Q s) → EachNeeded P rule → EachNeeded Q rule
  each_needed P Q (Plain r) h e = λ k lt. h (child_slot (Plain r) k) (e k lt)
  each_needed P Q (Sequence r) h e = h (slot_of r.item) e

  one_more : (k : ℕ) (slot : Slot) → IsProductiveIn k g slot → IsProductiveIn (suc k) g slot
  one_more zero slot h = inl h
  one_more (suc k) slot (inl t) = inl t
  one_more (suc k) slot (inr (i, lt, f, inl star)) = inr (i, lt, f, inl star)
  one_more (suc k) slot (inr (i, lt, f, inr e)) = inr (i, lt, f, inr (each_needed (IsProductiveIn k g) (IsProductiveIn (suc k) g) (rule_at g i) (λ s h. one_more k s h) e))

  more : (d k : ℕ) (slot : Slot) → IsProductiveIn k g slot → IsProductiveIn (d + k) g slot
  more zero k slot h = let e : k ≡ 0 + k = omega arith in subst (λ z. IsProductiveIn z g slot) e h
  more (suc d) k slot h = let e : suc (d + k) ≡ suc d + k = omega arith in subst (λ z. IsProductiveIn z g slot) e (one_more (d + k) slot (more d k slot h))

  -- one number of rounds for the child slots below n
  within : (rule : WrittenRule) (n : ℕ) → ((j : ℕ) → j < n → IsProductive g (child_slot rule j)) → (k : ℕ) × ((j : ℕ) → j < n → IsProductiveIn k g (child_slot rule j))
  within rule zero h = (0, λ j lt. absurd (omega arith))
  within rule (suc n) h =
      let w = within rule n (λ j lt. h j (omega arith)) in
      let u = h n (omega arith) in
      (u.0 + w.0, λ j lt. pick w u j lt (cases_eq j n))
    where
      pick : (w : (k : ℕ) × ((j : ℕ) → j < n → IsProductiveIn k g (child_slot rule j))) (u : IsProductive g (child_slot rule n)) (j : ℕ) → j < suc n → (j ≡ n) ⊎ (j ≡ n → ⊥) → IsProductiveIn (u.0 + w.0) g (child_slot rule j)
      pick w u j lt (inl e) =
          let c : w.0 + u.0 ≡ u.0 + w.0 = omega arith in
          subst (λ z. IsProductiveIn z g (child_slot rule j)) c (more w.0 u.0 (child_slot rule j) (subst (λ z. IsProductiveIn u.0 g (child_slot rule z)) (sym e) u.1))
      pick w u j lt (inr ne) = more u.0 w.0 (child_slot rule j) (w.1 j (omega arith))

  needed : (rule : WrittenRule) → IsLive g rule → (k : ℕ) × EachNeeded (IsProductiveIn k g) rule
  needed (Plain r) live = within (Plain r) (length r.rhs) live
  needed (Sequence r) live = live

  pub productive_by : (i : ℕ) (slot : Slot) → i < length g.rules → Fits (rule_at g i) slot → IsLive g (rule_at g i) → IsProductive g slot
  productive_by i slot lt fits live = let (k, e) = needed (rule_at g i) live in (suc k, inr (i, lt, fits, inr e))
