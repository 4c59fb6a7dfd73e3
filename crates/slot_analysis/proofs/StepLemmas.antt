-- Live rules and productive parts, as they are looked up.
use Rattle.std.proofs.Common.{arith, ◌≡◌, ◌↔◌, inl, inr, ℕ, zero, suc, ◌<◌, Bool, false, List, [], length, slice_index, Contains, sym, subst}
use Rattle.std.specs.Bool.{IsTrue}
use Rattle.grammar_model.specs.Grammar.{Grammar, WrittenRule, Plain, Sequence, slot_of, rule_at, child_slot, slot_count, lhs_of}
use Rattle.grammar_model.specs.Analysis.{IsLive, IsProductive}
use Rattle.grammar_core.specs.Written.{IsWritten}
use Rattle.horn_clauses.specs.Least.{Clause}
use Rattle.slot_analysis.specs.Slots.{number, IsNumbering, needed_of}
use Rattle.slot_analysis.specs.Clauses.{IsAnalysis}
use Rattle.slot_analysis.specs.Steps.{HasMore, head_of, IsOfStart, IsOfUse, IsOfNexts, IsOfParts, IsStep}
use Rattle.grammar_core.proofs.Known.{lhs_known}
use Rattle.slot_analysis.proofs.Known.{child_numbered, head_numbered}
use Rattle.slot_analysis.proofs.Rounds.{bases_rise}
use Rattle.grammar_model.proofs.Productive.{item_first}

pub productive_found : (g : Grammar) (bases keys : List ℕ) (i k x : ℕ) (b : Bool) → IsWritten g → IsNumbering g bases → i < length g.rules → k < slot_count (rule_at g i) → IsAnalysis false g bases keys →
    x ≡ number bases (child_slot (rule_at g i) k) → (IsTrue b ↔ Contains keys x) → IsTrue b ↔ IsProductive g (child_slot (rule_at g i) k)
productive_found g bases keys i k x b w n lt kl a e found =
    let num = child_numbered g bases i k w n lt kl in
    (λ t. (a.exact (child_slot (rule_at g i) k) num).0 (subst (Contains keys) e (found.0 t)), λ h. found.1 (subst (Contains keys) (sym e) ((a.exact (child_slot (rule_at g i) k) num).1 h)))

pub all_needed : (g : Grammar) (rule : WrittenRule) → ((j : ℕ) → j < needed_of rule → IsProductive g (child_slot rule j)) ↔ IsLive g rule
all_needed g (Plain r) = (λ h. h, λ h. h)
all_needed g (Sequence r) = (
  λ h. subst (λ s. IsProductive g (slot_of s)) (item_first r.item r.separator) (h 0 (omega arith)),
  λ h j lt. one j lt (subst (λ s. IsProductive g (slot_of s)) (sym (item_first r.item r.separator)) h),
)
  where
    one : (j : ℕ) → j < 1 → IsProductive g (child_slot (Sequence r) 0) → IsProductive g (child_slot (Sequence r) j)
    one zero lt h = h
    one (suc j) lt h = absurd (omega arith)

pub needed_small : (rule : WrittenRule) (k : ℕ) → k < needed_of rule → k < slot_count rule
needed_small (Plain r) k lt = lt
needed_small (Sequence r) k lt = omega arith

pub head_small : (g : Grammar) (bases : List ℕ) (i : ℕ) → IsWritten g → IsNumbering g bases → i < length g.rules → head_of g bases i < slice_index bases (length g.names)
head_small g bases i w n lt =
    let h = head_numbered g bases i w n lt in
    let r = bases_rise g bases (lhs_of (rule_at g i)) (length g.names) n (lhs_known g i w lt) (omega arith) in
    omega (arith, h, r)

pub joined : (g : Grammar) (bases : List ℕ) (total : ℕ) (none a b d e : List Clause) → none ≡ [] → HasMore none a (IsOfStart g bases (length g.starts)) → HasMore a b (IsOfUse total total) →
    HasMore b d (IsOfNexts bases total (length g.names)) → HasMore d e (IsOfParts g bases total (length g.rules)) → (c : Clause) → Contains e c ↔ IsStep g bases total c
joined g bases total none a b d e empty hs hu hn hp c = (
  λ h. elim (hp.only c h) [
    | inr p ↦ inr (inr (inr p))
    | inl h ↦ elim (hn.only c h) [
      | inr n ↦ inr (inr (inl n))
      | inl h ↦ elim (hu.only c h) [
        | inr u ↦ inr (inl u)
        | inl h ↦ elim (hs.only c h) [
          | inr s ↦ inl s
          | inl h ↦ absurd (let (k, lt, e') = subst (λ l. Contains l c) empty h in omega (arith, lt))
        ]
      ]
    ]
  ],
  λ h. elim h [
    | inl s ↦ hp.keeps c (hn.keeps c (hu.keeps c (hs.has c s)))
    | inr (inl u) ↦ hp.keeps c (hn.keeps c (hu.has c u))
    | inr (inr (inl n)) ↦ hp.keeps c (hn.has c n)
    | inr (inr (inr p)) ↦ hp.has c p
  ],
)
