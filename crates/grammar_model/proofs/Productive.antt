-- A slot with a derivation is productive, and the rule of a node is live.
use Rattle.std.proofs.Common.{length, ◌≡◌, ℕ, zero, suc, ◌<◌, ◌+◌, ◌⊎◌, inl, inr, Option, Some, None, refl, sym, subst, arith}
use Rattle.std.proofs.lemmas.Bool.{cases_eq}
use Rattle.grammar_model.specs.Grammar.{Grammar, Slot, WrittenRule, Plain, Sequence, slot_of, rule_at, child_slot, sequence_symbol, IsTerminal, IsChildCount, EachChildSlot, Fits, slot_count}
use Rattle.grammar_model.specs.Trees.{Tree, Children, Leaf, Nulled, Node, NoChild, Child, child_count}
use Rattle.grammar_model.specs.Analysis.{IsNullableIn, IsProductive, IsProductiveIn, EachNeeded, IsLive, IsNullable}
use Rattle.grammar_model.specs.Derives.{Edges, Derives, DerivesPrefix}

each_needed : (P Q : Slot → Type 0) (rule : WrittenRule) → ((s : Slot) → P s → Q s) → EachNeeded P rule → EachNeeded Q rule
each_needed P Q (Plain r) h e = λ k lt. h (child_slot (Plain r) k) (e k lt)
each_needed P Q (Sequence r) h e = h (slot_of r.item) e

pub item_first : (item : ℕ) (separator : Option ℕ) → sequence_symbol item separator 0 ≡ item
item_first item None = refl
item_first item (Some c) = refl

-- what holds of each child slot holds of those needed
needed_from_each : (P : Slot → Type 0) (rule : WrittenRule) → EachChildSlot P rule → EachNeeded P rule
needed_from_each P (Plain r) e = e
needed_from_each P (Sequence r) e = subst (λ s. P (slot_of s)) (item_first r.item r.separator) (e 0 (omega arith))

module _ (g : Grammar) where
  more_rounds : (k : ℕ) (slot : Slot) → IsProductiveIn k g slot → IsProductiveIn (suc k) g slot
  more_rounds zero slot h = inl h
  more_rounds (suc k) slot (inl t) = inl t
  more_rounds (suc k) slot (inr (i, lt, f, inl star)) = inr (i, lt, f, inl star)
  more_rounds (suc k) slot (inr (i, lt, f, inr e)) = inr (i, lt, f, inr (each_needed (IsProductiveIn k g) (IsProductiveIn (suc k) g) (rule_at g i) (λ s h. more_rounds k s h) e))

  rounds_from : (d k : ℕ) (slot : Slot) → IsProductiveIn k g slot → IsProductiveIn (d + k) g slot
  rounds_from zero k slot h = let e : k ≡ 0 + k = omega arith in subst (λ z. IsProductiveIn z g slot) e h
  rounds_from (suc d) k slot h = let e : suc (d + k) ≡ suc d + k = omega arith in subst (λ z. IsProductiveIn z g slot) e (more_rounds (d + k) slot (rounds_from d k slot h))

  nullable_productive : (k : ℕ) (slot : Slot) → IsNullableIn k g slot → IsProductiveIn k g slot
  nullable_productive zero slot h = absurd h
  nullable_productive (suc k) slot (i, lt, f, inl star) = inr (i, lt, f, inl star)
  nullable_productive (suc k) slot (i, lt, f, inr e) = inr (i, lt, f, inr (each_needed (IsNullableIn k g) (IsProductiveIn k g) (rule_at g i) (λ s h. nullable_productive k s h) (needed_from_each (IsNullableIn k g) (rule_at g i) e)))

  -- one number of rounds for the child slots below n
  abbrev Within : WrittenRule → ℕ → ℕ → Type 0
  Within rule n k = (j : ℕ) → j < n → IsProductiveIn k g (child_slot rule j)

  widen : (rule : WrittenRule) (n k k' : ℕ) → Within rule n k → IsProductiveIn k' g (child_slot rule n) → Within rule (suc n) (k' + k)
  widen rule n k k' h h' j lt = pick (cases_eq j n)
    where
      pick : (j ≡ n) ⊎ (j ≡ n → ⊥) → IsProductiveIn (k' + k) g (child_slot rule j)
      pick (inl e) = let c : k + k' ≡ k' + k = omega arith in subst (λ z. IsProductiveIn z g (child_slot rule j)) c (rounds_from k k' (child_slot rule j) (subst (λ z. IsProductiveIn k' g (child_slot rule z)) (sym e) h'))
      pick (inr ne) = rounds_from k' k (child_slot rule j) (h j (omega arith))

  needed_within : (rule : WrittenRule) (n k : ℕ) → IsChildCount rule n → Within rule n k → EachNeeded (IsProductiveIn k g) rule
  needed_within (Plain r) n k c h = λ j lt. h j (omega arith)
  needed_within (Sequence r) n k c h = subst (λ s. IsProductiveIn k g (slot_of s)) (item_first r.item r.separator) (h 0 c.0)

  module _ (edge : Edges) where
    mutual
      pub productive : (t : Tree) (slot : Slot) (p q : ℕ) → Derives g edge slot p q t → IsProductive g slot
      productive (Leaf s a b) slot p q d = (0, subst (IsTerminal g) d.symbol_is d.terminal)
      productive (Nulled s a) slot p q d = (d.nullable.0, nullable_productive d.nullable.0 slot d.nullable.1)
      productive (Node i cs a b) slot p q d =
          let w = prefix_productive cs (rule_at g i) p q d.prefix in
          (suc w.0, inr (i, d.in_range, d.fits, inr (needed_within (rule_at g i) (child_count cs) w.0 d.complete w.1)))

      pub prefix_productive : (cs : Children) (rule : WrittenRule) (p q : ℕ) → DerivesPrefix g edge rule p q cs → (k : ℕ) × Within rule (child_count cs) k
      prefix_productive NoChild rule p q d = (0, λ j lt. absurd (omega arith))
      prefix_productive (Child prefix last) rule p q (m, f, l) =
          let w = prefix_productive prefix rule p m f in
          let u = productive last (child_slot rule (child_count prefix)) m q l in
          (u.0 + w.0, widen rule (child_count prefix) w.0 u.0 w.1 u.1)

    pub node_live : (rule : WrittenRule) (p q : ℕ) (cs : Children) → IsChildCount rule (child_count cs) → DerivesPrefix g edge rule p q cs → IsLive g rule
    node_live rule p q cs c d =
        let w = prefix_productive cs rule p q d in
        each_needed (IsProductiveIn w.0 g) (IsProductive g) rule (λ s h. (w.0, h)) (needed_within rule (child_count cs) w.0 c w.1)

-- ---- nullable by one number of rounds

module _ (g : Grammar) where
  each_child : (P Q : Slot → Type 0) (rule : WrittenRule) → ((s : Slot) → P s → Q s) → EachChildSlot P rule → EachChildSlot Q rule
  each_child P Q rule h e = λ k lt. h (child_slot rule k) (e k lt)

  more_null_rounds : (k : ℕ) (slot : Slot) → IsNullableIn k g slot → IsNullableIn (suc k) g slot
  more_null_rounds zero slot h = absurd h
  more_null_rounds (suc k) slot (i, lt, f, inl star) = (i, lt, f, inl star)
  more_null_rounds (suc k) slot (i, lt, f, inr e) = (i, lt, f, inr (each_child (IsNullableIn k g) (IsNullableIn (suc k) g) (rule_at g i) (λ s h. more_null_rounds k s h) e))

  null_rounds_from : (d k : ℕ) (slot : Slot) → IsNullableIn k g slot → IsNullableIn (d + k) g slot
  null_rounds_from zero k slot h = let e : k ≡ 0 + k = omega arith in subst (λ z. IsNullableIn z g slot) e h
  null_rounds_from (suc d) k slot h = let e : suc (d + k) ≡ suc d + k = omega arith in subst (λ z. IsNullableIn z g slot) e (more_null_rounds (d + k) slot (null_rounds_from d k slot h))

  null_within : (rule : WrittenRule) (n : ℕ) → ((j : ℕ) → j < n → IsNullable g (child_slot rule j)) → (k : ℕ) × ((j : ℕ) → j < n → IsNullableIn k g (child_slot rule j))
  null_within rule zero h = (0, λ j lt. absurd (omega arith))
  null_within rule (suc n) h =
      let w = null_within rule n (λ j lt. h j (omega arith)) in
      let u = h n (omega arith) in
      (u.0 + w.0, λ j lt. pick w u j lt (cases_eq j n))
    where
      pick : (w : (k : ℕ) × ((j : ℕ) → j < n → IsNullableIn k g (child_slot rule j))) (u : IsNullable g (child_slot rule n)) (j : ℕ) → j < suc n → (j ≡ n) ⊎ (j ≡ n → ⊥) → IsNullableIn (u.0 + w.0) g (child_slot rule j)
      pick w u j lt (inl e) =
          let c : w.0 + u.0 ≡ u.0 + w.0 = omega arith in
          subst (λ z. IsNullableIn z g (child_slot rule j)) c (null_rounds_from w.0 u.0 (child_slot rule j) (subst (λ z. IsNullableIn u.0 g (child_slot rule z)) (sym e) u.1))
      pick w u j lt (inr ne) = null_rounds_from u.0 w.0 (child_slot rule j) (w.1 j (omega arith))

  -- a slot is nullable where all child slots of a rule that fits it are
  pub nullable_by : (i : ℕ) (slot : Slot) → i < length g.rules → Fits (rule_at g i) slot → EachChildSlot (IsNullable g) (rule_at g i) → IsNullable g slot
  nullable_by i slot lt f e = let w = null_within (rule_at g i) (slot_count (rule_at g i)) e in (suc w.0, (i, lt, f, inr w.1))
