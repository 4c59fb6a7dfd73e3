-- Clauses of one kind, added to others.
use Rattle.std.proofs.Common.{arith, ◌≡◌, ◌⊎◌, ◌↔◌, inl, inr, ℕ, suc, ◌+◌, ◌≤◌, List, [], ◌∷◌, ◌++◌, slice_index, Contains, sym, ◌∙◌, ap, subst}
use Rattle.std.proofs.lemmas.List.Elements.{Contains-append_left, Contains-push, Contains-push_cases}
use Rattle.grammar_model.specs.Grammar.{Grammar, rule_at, child_slot, slot_count}
use Rattle.grammar_model.specs.Analysis.{IsLive, IsProductive}
use Rattle.horn_clauses.specs.Least.{Clause}
use Rattle.slot_analysis.specs.Slots.{number, end_of, fact_clause}
use Rattle.slot_analysis.specs.Steps.{unit_clause, HasMore, head_of, IsOfStart, IsOfUse, IsOfNext, IsOfNexts, IsOfPart, IsOfParts}
use Rattle.horn_clauses.proofs.Search.{same_or_below}

pub more_none : (old : List Clause) (Q : Clause → Type 0) → ((c : Clause) → Q c → ⊥) → HasMore old old Q
more_none old Q none = record { keeps = λ c h. h; only = λ c h. inl h; has = λ c q. absurd (none c q) }

pub more_same : (old new : List Clause) (Q R : Clause → Type 0) → ((c : Clause) → Q c ↔ R c) → HasMore old new Q → HasMore old new R
more_same old new Q R same m = record {
  keeps = m.keeps;
  only = λ c h. elim (m.only c h) [ inl o ↦ inl o | inr q ↦ inr ((same c).0 q) ];
  has = λ c r. m.has c ((same c).1 r);
}

pub more_by : (old mid new : List Clause) (Q R S : Clause → Type 0) → ((c : Clause) → S c ↔ (Q c ⊎ R c)) → HasMore old mid Q → HasMore mid new R → HasMore old new S
more_by old mid new Q R S split a b = record {
  keeps = λ c h. b.keeps c (a.keeps c h);
  only = λ c h. elim (b.only c h) [
    | inl m ↦ elim (a.only c m) [ inl o ↦ inl o | inr q ↦ inr ((split c).1 (inl q)) ]
    | inr r ↦ inr ((split c).1 (inr r))
  ];
  has = λ c s. elim ((split c).0 s) [ inl q ↦ b.keeps c (a.has c q) | inr r ↦ b.has c r ];
}

pub starts_split : (g : Grammar) (bases : List ℕ) (n : ℕ) (c : Clause) → IsOfStart g bases (n + 1) c ↔ (IsOfStart g bases n c ⊎ (c ≡ fact_clause (slice_index bases (slice_index g.starts n))))
starts_split g bases n c = (
  λ (k, lt, e). elim (same_or_below k n lt) [ inl b ↦ inl (k, b, e) | inr s ↦ inr (e ∙ ap (λ k. fact_clause (slice_index bases (slice_index g.starts k))) s) ],
  λ h. elim h [ inl (k, lt, e) ↦ (k, omega arith, e) | inr e ↦ (n, omega arith, e) ],
)

pub uses_split : (total n : ℕ) (c : Clause) → IsOfUse total (n + 1) c ↔ (IsOfUse total n c ⊎ (c ≡ unit_clause (total + n) n))
uses_split total n c = (
  λ (x, lt, e). elim (same_or_below x n lt) [ inl b ↦ inl (x, b, e) | inr s ↦ inr (e ∙ ap (λ x. unit_clause (total + x) x) s) ],
  λ h. elim h [ inl (x, lt, e) ↦ (x, omega arith, e) | inr e ↦ (n, omega arith, e) ],
)

-- the numbers before n, each with the one after it
pub next_split : (total from n : ℕ) (c : Clause) → from ≤ n → IsOfNext total from (suc (n + 1)) c ↔ (IsOfNext total from (suc n) c ⊎ (c ≡ unit_clause (total + suc n) (total + n)))
next_split total from n c le = (
  λ (x, fx, lt, e). elim (same_or_below x n (omega arith)) [ inl b ↦ inl (x, fx, omega arith, e) | inr s ↦ inr (e ∙ ap (λ x. unit_clause (total + suc x) (total + x)) s) ],
  λ h. elim h [ inl (x, fx, lt, e) ↦ (x, fx, omega arith, e) | inr e ↦ (n, le, omega arith, e) ],
)

pub nexts_split : (bases : List ℕ) (total n : ℕ) (c : Clause) → IsOfNexts bases total (n + 1) c ↔ (IsOfNexts bases total n c ⊎ IsOfNext total (slice_index bases n) (end_of bases n) c)
nexts_split bases total n c = (
  λ (s, lt, h). elim (same_or_below s n lt) [ inl b ↦ inl (s, b, h) | inr e ↦ inr (subst (λ s. IsOfNext total (slice_index bases s) (end_of bases s) c) e h) ],
  λ h. elim h [ inl (s, lt, h) ↦ (s, omega arith, h) | inr h ↦ (n, omega arith, h) ],
)

module _ (g : Grammar) (bases : List ℕ) (total : ℕ) where
  pub part_split : (i n : ℕ) (c : Clause) → IsProductive g (child_slot (rule_at g i) n) →
      IsOfPart g bases total i (n + 1) c ↔ (IsOfPart g bases total i n c ⊎ (c ≡ unit_clause (number bases (child_slot (rule_at g i) n)) (total + head_of g bases i)))
  part_split i n c p = (
    λ (k, lt, q, e). elim (same_or_below k n lt) [ inl b ↦ inl (k, b, q, e) | inr s ↦ inr (e ∙ ap (λ k. unit_clause (number bases (child_slot (rule_at g i) k)) (total + head_of g bases i)) s) ],
    λ h. elim h [ inl (k, lt, q, e) ↦ (k, omega arith, q, e) | inr e ↦ (n, omega arith, p, e) ],
  )

  pub part_skip : (i n : ℕ) (c : Clause) → (IsProductive g (child_slot (rule_at g i) n) → ⊥) → IsOfPart g bases total i n c ↔ IsOfPart g bases total i (n + 1) c
  part_skip i n c none = (
    λ (k, lt, q, e). (k, omega arith, q, e),
    λ (k, lt, q, e). elim (same_or_below k n lt) [ inl b ↦ (k, b, q, e) | inr s ↦ absurd (none (subst (λ k. IsProductive g (child_slot (rule_at g i) k)) s q)) ],
  )

  pub parts_split : (n : ℕ) (c : Clause) → IsLive g (rule_at g n) → IsOfParts g bases total (n + 1) c ↔ (IsOfParts g bases total n c ⊎ IsOfPart g bases total n (slot_count (rule_at g n)) c)
  parts_split n c live = (
    λ (i, lt, l, h). elim (same_or_below i n lt) [ inl b ↦ inl (i, b, l, h) | inr s ↦ inr (subst (λ i. IsOfPart g bases total i (slot_count (rule_at g i)) c) s h) ],
    λ h. elim h [ inl (i, lt, l, h) ↦ (i, omega arith, l, h) | inr h ↦ (n, omega arith, live, h) ],
  )

  pub parts_skip : (n : ℕ) (c : Clause) → (IsLive g (rule_at g n) → ⊥) → IsOfParts g bases total n c ↔ IsOfParts g bases total (n + 1) c
  parts_skip n c dead = (
    λ (i, lt, l, h). (i, omega arith, l, h),
    λ (i, lt, l, h). elim (same_or_below i n lt) [ inl b ↦ (i, b, l, h) | inr s ↦ absurd (dead (subst (λ i. IsLive g (rule_at g i)) s l)) ],
  )

pub more_pushed : (old new : List Clause) (d : Clause) → new ≡ old ++ d ∷ [] → HasMore old new (λ c. c ≡ d)
more_pushed old new d e = record {
  keeps = λ c h. subst (λ l. Contains l c) (sym e) (Contains-append_left old (d ∷ []) c h);
  only = λ c h. elim (Contains-push_cases old d c (subst (λ l. Contains l c) e h)) [ inl o ↦ inl o | inr now ↦ inr (sym now) ];
  has = λ c is. subst (λ l. Contains l c) (sym e) (subst (Contains (old ++ d ∷ [])) (sym is) (Contains-push old d));
}
