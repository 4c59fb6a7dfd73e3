-- Rows that levels are added to.
use Rattle.std.proofs.Common.{arith, ◌≡◌, ◌↔◌, inl, inr, ℕ, suc, ◌+◌, ◌<◌, List, [], length, ◌≤◌, ◌⊎◌, Contains, sym, ◌∙◌, subst}
use Rattle.std.proofs.Math.ListN.{get_or-eq_default}
use Rattle.std.specs.List.Sorted.{IsStrictlyIncreasing}
use Rattle.grammar_model.specs.Grammar.{Grammar, rule_at, lhs_of, level_of}
use Rattle.horn_clauses.specs.Rows.{HasAdded, HasSameRows}
use Rattle.jagged.specs.Rows.{row_at}
use Rattle.slot_analysis.specs.Packed.{HasFirsts, HasBoth, HoldsLevels, IsLevelTable}
use Rattle.horn_clauses.proofs.Search.{same_or_below}

pub firsts_more : (old new : List (List ℕ)) (s : ℕ) → HasAdded old new s 0 → ((j : ℕ) → j < s → Contains (row_at old j) 0) → (j : ℕ) → j < s + 1 → Contains (row_at new j) 0
firsts_more old new s a before j lt = elim (same_or_below j s lt) [
  | inl less ↦ a.keeps j 0 (before j less)
  | inr same ↦ subst (λ j. Contains (row_at new j) 0) (sym same) a.has
]

pub both_added : (old mid new : List (List ℕ)) (x level : ℕ) → HasAdded old mid x level → HasAdded mid new x (level + 1) → HasBoth old new x level
both_added old mid new x level a b = record {
  same_length = b.same_length ∙ a.same_length;
  keeps = λ y l h. b.keeps y l (a.keeps y l h);
  level_in = b.keeps x level a.has;
  next_in = subst (Contains (row_at new x)) (let q : level + 1 ≡ suc level = omega arith in q) b.has;
}

pub levels_none : (g : Grammar) (rows : List (List ℕ)) → HasFirsts (length g.names) rows → HoldsLevels g 0 rows
levels_none g rows f = record { sized = f.sized; first = f.first; levels = λ i lt. absurd (omega (arith, lt)); nexts = λ i lt. absurd (omega (arith, lt)) }

pub levels_more : (g : Grammar) (old new : List (List ℕ)) (i x level : ℕ) → HoldsLevels g i old → HasBoth old new x level → x ≡ lhs_of (rule_at g i) → level ≡ level_of (rule_at g i) → HoldsLevels g (i + 1) new
levels_more g old new i x level h b ex el = record {
  sized = b.same_length ∙ h.sized;
  first = λ s lt. b.keeps s 0 (h.first s lt);
  levels = λ j lt. elim (same_or_below j i lt) [
    | inl less ↦ b.keeps (lhs_of (rule_at g j)) (level_of (rule_at g j)) (h.levels j less)
    | inr same ↦ subst (λ j. Contains (row_at new (lhs_of (rule_at g j))) (level_of (rule_at g j))) (sym same) (subst (λ x. Contains (row_at new x) (level_of (rule_at g i))) ex (subst (Contains (row_at new x)) el b.level_in))
  ];
  nexts = λ j lt. elim (same_or_below j i lt) [
    | inl less ↦ b.keeps (lhs_of (rule_at g j)) (suc (level_of (rule_at g j))) (h.nexts j less)
    | inr same ↦ subst (λ j. Contains (row_at new (lhs_of (rule_at g j))) (suc (level_of (rule_at g j)))) (sym same) (subst (λ x. Contains (row_at new x) (suc (level_of (rule_at g i)))) ex (subst (λ l. Contains (row_at new x) (suc l)) el b.next_in))
  ];
}

-- a row is sorted, and has what another row has
abbrev pub IsSortedFrom : List (List ℕ) → ℕ → List ℕ → Type 0
IsSortedFrom rows j row = IsStrictlyIncreasing row × ((n : ℕ) → Contains row n ↔ Contains (row_at rows j) n)

none_sorted : IsStrictlyIncreasing []
none_sorted = λ k lt. absurd (omega (arith, lt))

pub all_sorted : (rows sorted : List (List ℕ)) → length sorted ≡ length rows → ((j : ℕ) → j < length rows → IsSortedFrom rows j (row_at sorted j)) → (s : ℕ) → IsSortedFrom rows s (row_at sorted s)
all_sorted rows sorted long each s = elim (apart s (length rows)) [
  | inl less ↦ each s less
  | inr past ↦
      let a : row_at sorted s ≡ [] = get_or-eq_default sorted [] (omega (arith, long, past)) in
      let b : row_at rows s ≡ [] = get_or-eq_default rows [] (omega (arith, past)) in
      (subst IsStrictlyIncreasing (sym a) none_sorted, λ n. (subst (λ l. Contains l n) (a ∙ sym b), subst (λ l. Contains l n) (b ∙ sym a)))
]
  where
    apart : (s n : ℕ) → (s < n) ⊎ (n ≤ s)
    apart s n = grind arith

pub same_both : (a b c : List (List ℕ)) → HasSameRows a b → HasSameRows b c → HasSameRows a c
same_both a b c r s = record {
  same_length = s.same_length ∙ r.same_length;
  same = λ x n. (λ h. (r.same x n).0 ((s.same x n).0 h), λ h. (s.same x n).1 ((r.same x n).1 h));
}

pub table_of : (g : Grammar) (old new : List (List ℕ)) → HoldsLevels g (length g.rules) old → HasSameRows old new → ((s : ℕ) → IsStrictlyIncreasing (row_at new s)) → IsLevelTable g new
table_of g old new h s sorted = record {
  has = record {
    sized = s.same_length ∙ h.sized;
    first = λ x lt. (s.same x 0).1 (h.first x lt);
    levels = λ i lt. (s.same (lhs_of (rule_at g i)) (level_of (rule_at g i))).1 (h.levels i lt);
    nexts = λ i lt. (s.same (lhs_of (rule_at g i)) (suc (level_of (rule_at g i)))).1 (h.nexts i lt);
  };
  rising = sorted;
}
