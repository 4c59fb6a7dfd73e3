-- Clauses that are added one at a time.
use Rattle.std.proofs.Common.{arith, ◌≡◌, inl, inr, ℕ, suc, ◌+◌, ◌-◌, ◌<◌, ◌≤◌, Bool, true, false, List, [], ◌∷◌, ◌++◌, Contains, slice_index, slice_index_or, sym, ◌∙◌, ap, subst, true≢false}
use Rattle.std.proofs.lemmas.List.Elements.{Contains-append_left, Contains-push, Contains-push_cases}
use Rattle.horn_clauses.specs.Least.{Clause}
use Rattle.slot_analysis.specs.Slots.{end_of, chain_clause, fact_clause, HasChain, HasFacts, HasLevels, HasTerminals}
use Rattle.horn_clauses.proofs.Search.{same_or_below}

pub chain_none : (old : List Clause) (from : ℕ) → HasChain old old from from
chain_none old from = record { keeps = λ c h. h; only = λ c h. inl h; has = λ x le lt. absurd (omega arith) }

pub chain_first : (old mid : List Clause) (from next : ℕ) → next ≤ from → HasChain old mid from next → HasChain old mid from (next + 1)
chain_first old mid from next le h = record {
  keeps = h.keeps;
  only = λ c m. elim (h.only c m) [ inl o ↦ inl o | inr (x, a, b, e) ↦ absurd (omega arith) ];
  has = λ x a b. absurd (omega arith);
}

pub chain_more : (old mid new : List Clause) (from next : ℕ) → from < next → HasChain old mid from next → new ≡ mid ++ record { head = next - 1; body = next ∷ [] } ∷ [] → HasChain old new from (next + 1)
chain_more old mid new from next lt h e =
    let is : record { head = next - 1; body = next ∷ [] } ≡ chain_clause (next - 1) = (let z : next ≡ suc (next - 1) = omega arith in λ i. record { head = next - 1; body = z i ∷ [] }) in
    let grown : new ≡ mid ++ chain_clause (next - 1) ∷ [] = e ∙ ap (λ c. mid ++ c ∷ []) is in
    record {
      keeps = λ c m. subst (λ l. Contains l c) (sym grown) (Contains-append_left mid (chain_clause (next - 1) ∷ []) c (h.keeps c m));
      only = λ c m. elim (Contains-push_cases mid (chain_clause (next - 1)) c (subst (λ l. Contains l c) grown m)) [
        | inl before ↦ elim (h.only c before) [ inl o ↦ inl o | inr (x, a, b, e') ↦ inr (x, a, omega arith, e') ]
        | inr now ↦ inr (next - 1, omega arith, omega arith, sym now)
      ];
      has = λ x a b. elim (same_or_below x (next - 1) (omega arith)) [
        | inl before ↦ subst (λ l. Contains l (chain_clause x)) (sym grown) (Contains-append_left mid (chain_clause (next - 1) ∷ []) (chain_clause x) (h.has x a (omega arith)))
        | inr same ↦ subst (λ x. Contains new (chain_clause x)) (sym same) (subst (λ l. Contains l (chain_clause (next - 1))) (sym grown) (Contains-push mid (chain_clause (next - 1))))
      ];
    }

pub facts_none : (old : List Clause) (from : ℕ) → HasFacts old old from from
facts_none old from = record { keeps = λ c h. h; only = λ c h. inl h; has = λ x le lt. absurd (omega arith) }

pub facts_more : (old mid new : List Clause) (from x : ℕ) → from ≤ x → HasFacts old mid from x → new ≡ mid ++ fact_clause x ∷ [] → HasFacts old new from (x + 1)
facts_more old mid new from y le h grown = record {
  keeps = λ c m. subst (λ l. Contains l c) (sym grown) (Contains-append_left mid (fact_clause y ∷ []) c (h.keeps c m));
  only = λ c m. elim (Contains-push_cases mid (fact_clause y) c (subst (λ l. Contains l c) grown m)) [
    | inl before ↦ elim (h.only c before) [ inl o ↦ inl o | inr (x, a, b, e') ↦ inr (x, a, omega arith, e') ]
    | inr now ↦ inr (y, le, omega arith, sym now)
  ];
  has = λ x a b. elim (same_or_below x y b) [
    | inl before ↦ subst (λ l. Contains l (fact_clause x)) (sym grown) (Contains-append_left mid (fact_clause y ∷ []) (fact_clause x) (h.has x a before))
    | inr same ↦ subst (λ x. Contains new (fact_clause x)) (sym same) (subst (λ l. Contains l (fact_clause y)) (sym grown) (Contains-push mid (fact_clause y)))
  ];
}

module _ (bases : List ℕ) (old : List Clause) where
  pub levels_none : HasLevels bases 0 old old
  levels_none = record { keeps = λ c h. h; only = λ c h. inl h; has = λ s x lt. absurd (omega arith) }

  pub levels_more : (mid new : List Clause) (n : ℕ) → HasLevels bases n old mid → HasChain mid new (slice_index bases n) (end_of bases n) → HasLevels bases (n + 1) old new
  levels_more mid new n h a = record {
    keeps = λ c m. a.keeps c (h.keeps c m);
    only = λ c m. elim (a.only c m) [
      | inl before ↦ elim (h.only c before) [ inl o ↦ inl o | inr (s, x, lt, p, q, e) ↦ inr (s, x, omega arith, p, q, e) ]
      | inr (x, p, q, e) ↦ inr (n, x, omega arith, p, q, e)
    ];
    has = λ s x lt p q. elim (same_or_below s n lt) [
      | inl before ↦ a.keeps (chain_clause x) (h.has s x before p q)
      | inr same ↦ a.has x (subst (λ s. slice_index bases s ≤ x) same p) (subst (λ s. suc x < end_of bases s) same q)
    ];
  }

  module _ (lefts : List Bool) where
    pub terminals_none : HasTerminals bases lefts 0 old old
    terminals_none = record { keeps = λ c h. h; only = λ c h. inl h; has = λ s x lt. absurd (omega arith) }

    pub terminals_more : (mid new : List Clause) (n : ℕ) → slice_index_or lefts n false ≡ false → HasTerminals bases lefts n old mid → HasFacts mid new (slice_index bases n) (end_of bases n) → HasTerminals bases lefts (n + 1) old new
    terminals_more mid new n f h a = record {
      keeps = λ c m. a.keeps c (h.keeps c m);
      only = λ c m. elim (a.only c m) [
        | inl before ↦ elim (h.only c before) [ inl o ↦ inl o | inr (s, x, lt, p, q, f', e) ↦ inr (s, x, omega arith, p, q, f', e) ]
        | inr (x, p, q, e) ↦ inr (n, x, omega arith, p, q, f, e)
      ];
      has = λ s x lt p q f'. elim (same_or_below s n lt) [
        | inl before ↦ a.keeps (fact_clause x) (h.has s x before p q f')
        | inr same ↦ a.has x (subst (λ s. slice_index bases s ≤ x) same p) (subst (λ s. x < end_of bases s) same q)
      ];
    }

    pub terminals_skip : (mid : List Clause) (n : ℕ) → slice_index_or lefts n false ≡ true → HasTerminals bases lefts n old mid → HasTerminals bases lefts (n + 1) old mid
    terminals_skip mid n t h = record {
      keeps = h.keeps;
      only = λ c m. elim (h.only c m) [ inl o ↦ inl o | inr (s, x, lt, p, q, f', e) ↦ inr (s, x, omega arith, p, q, f', e) ];
      has = λ s x lt p q f'. elim (same_or_below s n lt) [
        | inl before ↦ h.has s x before p q f'
        | inr same ↦ absurd (true≢false (sym t ∙ (sym (ap (λ s. slice_index_or lefts s false) same) ∙ f')))
      ];
    }
