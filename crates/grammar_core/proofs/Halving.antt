-- Binary searches over what a flat grammar has in order.
use Rattle.std.proofs.Common.{◌≡◌, ℕ, ◌<◌, ◌≤◌, true, false, ◌⊎◌, inl, inr, Some, sym, ap, ◌∙◌, subst, arith}
use Rattle.std.specs.Prelude.{nat_lt, nat_le, slice_get, slice_index_or}
use Rattle.std.specs.List.Sorted.{IsPartitionedBy}
use Rattle.std.proofs.lemmas.Bool.{true≢false, ltb-true, leb-true, lt-ltb, le-leb, cases_lt}
use Rattle.std.proofs.lemmas.Option.{slice_get-get_or}
use Rattle.std.proofs.lemmas.List.{get_or_default}
use Rattle.finite_sets.proofs.Lists.{get_index}
use Rattle.recognizer_model.specs.declared.flat.FlatSymbol.{FlatSymbol}
use Rattle.recognizer_model.specs.declared.flat.FlatSymbol.TheVariants.{Terminal, Slot, Sequence, Top}
use Rattle.recognizer_model.specs.Flat.{FlatGrammar, FlatRule, no_rule, IsRule, lhs_of}
use Rattle.recognizer_model.specs.Invariant.{IsArranged}
use Rattle.grammar_core.specs.Flat.{terminal_below}

module _ (f : FlatGrammar) (arranged : IsArranged f) where
  lower_equal : (i j : ℕ) → i ≤ j → IsRule f j → lhs_of f i ≤ lhs_of f j
  lower_equal i j le r = go (cases_lt i j)
    where
      go : (i < j) ⊎ (j ≤ i) → lhs_of f i ≤ lhs_of f j
      go (inl lt) = arranged.rules i j lt r
      go (inr ge) = let e : i ≡ j = omega arith in subst (λ z. lhs_of f i ≤ lhs_of f z) e (omega arith)

  left_at : (k : ℕ) (d : FlatRule) → IsRule f k → (slice_index_or f.rules k d).lhs ≡ lhs_of f k
  left_at k d r = ap (λ (z : FlatRule). z.lhs) (get_or_default f.rules k d no_rule r)

  pub below_partitioned : (x : ℕ) → IsPartitionedBy (λ (r : FlatRule). nat_lt r.lhs x) f.rules
  below_partitioned x i j d le lt e =
      let h = ltb-true _ _ e in
      let l = lower_equal i j le lt in
      let a = left_at i d (omega arith) in
      let b = left_at j d lt in
      lt-ltb _ _ (omega arith)

  pub up_to_partitioned : (x : ℕ) → IsPartitionedBy (λ (r : FlatRule). nat_le r.lhs x) f.rules
  up_to_partitioned x i j d le lt e =
      let h = leb-true _ _ e in
      let l = lower_equal i j le lt in
      let a = left_at i d (omega arith) in
      let b = left_at j d lt in
      le-leb _ _ (omega arith)

  below_from : (t s : ℕ) → s < t → terminal_below t (Terminal s) ≡ true
  below_from t s lt = lt-ltb s t lt

  pub terminals_partitioned : (t : ℕ) → IsPartitionedBy (terminal_below t) f.symbols
  terminals_partitioned t i j d le lt e = go (cases_lt i j)
    where
      at : FlatSymbol
      at = slice_index_or f.symbols j d

      by_kind : (s : FlatSymbol) → slice_get f.symbols j ≡ Some s → terminal_below t s ≡ true → i < j → terminal_below t (slice_index_or f.symbols i d) ≡ true
      by_kind (Terminal s) is below less =
          let (r, ir, lower) = arranged.terminals i j s less is in
          let h = ltb-true s t below in
          subst (λ z. terminal_below t z ≡ true) (sym (get_index f.symbols i d (Terminal r) ir).1) (below_from t r (omega arith))
      by_kind (Slot s k) is below less = absurd (true≢false (sym below))
      by_kind (Sequence r) is below less = absurd (true≢false (sym below))
      by_kind (Top k) is below less = absurd (true≢false (sym below))

      go : (i < j) ⊎ (j ≤ i) → terminal_below t (slice_index_or f.symbols i d) ≡ true
      go (inl less) = by_kind (slice_index_or f.symbols j d) (slice_get-get_or f.symbols j d lt) e less
      go (inr ge) = let same : j ≡ i = omega arith in subst (λ z. terminal_below t (slice_index_or f.symbols z d) ≡ true) same e

  -- the terminal stands where those of lower numbers end, or nowhere
  pub only_there : (t place : ℕ) → ((x : ℕ) (s : FlatSymbol) → x < place → slice_get f.symbols x ≡ Some s → terminal_below t s ≡ true) →
      ((x : ℕ) (s : FlatSymbol) → place ≤ x → slice_get f.symbols x ≡ Some s → terminal_below t s ≡ false) →
      (x : ℕ) → slice_get f.symbols x ≡ Some (Terminal t) → x ≡ place
  only_there t place below above x is = go (cases_lt x place)
    where
      later : (x ≡ place) ⊎ (place < x) → x ≡ place
      later (inl e) = e
      later (inr lt) =
          let (s, is', lower) = arranged.terminals place x t lt is in
          absurd (true≢false (sym (below_from t s lower) ∙ above place (Terminal s) (omega arith) is'))

      go : (x < place) ⊎ (place ≤ x) → x ≡ place
      go (inl lt) = let h = ltb-true t t (below x (Terminal t) lt is) in absurd (omega arith)
      go (inr ge) = later (grind arith)
