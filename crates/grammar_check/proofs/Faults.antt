-- The first faults.
use Rattle.std.proofs.Common.{arith, ◌≡◌, ◌⊎◌, ◌↔◌, inl, inr, ℕ, zero, suc, ◌+◌, ◌<◌, Option, Some, None, option_to_list, List, [], ◌∷◌, length, Contains, get_or, slice_get, sym, ◌∙◌, ap, subst}
use Rattle.std.proofs.Common.{All}
use Rattle.std.specs.Option.{IfSome}
use Rattle.grammar_core.specs.Written.{IsWritten, symbols_of}
use Rattle.grammar_model.specs.Grammar.{Grammar, PlainRule, SequenceRule, Plain, Sequence, slot_of, rule_at, sequence_symbol}
use Rattle.grammar_model.specs.Analysis.{IsNullable}
use Rattle.grammar_model.specs.Checked.{IsCountedNullable}
use Rattle.grammar_check.specs.Counted.{HasNullable}
use Rattle.horn_clauses.proofs.Search.{same_or_below}

-- one start more of which something holds
pub starts_more : (P : ℕ → Type 0) (starts : List ℕ) (k s : ℕ) → slice_get starts k ≡ Some s → P s → ((j t : ℕ) → j < k → slice_get starts j ≡ Some t → P t) → (j t : ℕ) → j < k + 1 → slice_get starts j ≡ Some t → P t
starts_more P starts k s at p before j t lt e = elim (same_or_below j k lt) [
  | inl b ↦ before j t b e
  | inr same ↦ let z : Some s ≡ Some t = sym at ∙ (sym (ap (slice_get starts) same) ∙ e) in let q : s ≡ t = cc in subst P q p
]

pub starts_all : (P : ℕ → Type 0) (starts : List ℕ) (n : ℕ) → n ≡ length starts → ((j t : ℕ) → j < n → slice_get starts j ≡ Some t → P t) → (s : ℕ) → Contains starts s → P s
starts_all P starts n e before s (k, lt, at) = before k s (omega (arith, lt, e)) (got starts k s lt at)
  where
    got : (starts : List ℕ) (k s : ℕ) → k < length starts → get_or starts k s ≡ s → slice_get starts k ≡ Some s
    got [] k s lt e = absurd (omega arith)
    got (x ∷ xs) zero s lt e = ap Some e
    got (x ∷ xs) (suc k) s lt e = got xs k s (omega arith) e

pub has_item : (g : Grammar) (r : SequenceRule) → r.separator ≡ None → (IsNullable g (slot_of r.item) ↔ HasNullable g r)
has_item g r e = (
  λ h. (0, omega arith, subst (λ (sep : Option ℕ). IsNullable g (slot_of (sequence_symbol r.item sep 0))) (sym e) h),
  λ (k, lt, h). subst (λ (sep : Option ℕ). IsNullable g (slot_of (sequence_symbol r.item sep k))) e h,
)

pub has_either : (g : Grammar) (r : SequenceRule) (s : ℕ) → r.separator ≡ Some s → ((IsNullable g (slot_of r.item) ⊎ IsNullable g (slot_of s)) ↔ HasNullable g r)
has_either g r s e = (
  λ h. elim h [
    | inl i ↦ (0, omega arith, subst (λ (sep : Option ℕ). IsNullable g (slot_of (sequence_symbol r.item sep 0))) (sym e) i)
    | inr i ↦ (1, subst (λ (sep : Option ℕ). 1 < suc (length (option_to_list sep))) (sym e) (omega arith), subst (λ (sep : Option ℕ). IsNullable g (slot_of (sequence_symbol r.item sep 1))) (sym e) i)
  ],
  λ (k, lt, h). by k (subst (λ (sep : Option ℕ). k < suc (length (option_to_list sep))) e lt) (subst (λ (sep : Option ℕ). IsNullable g (slot_of (sequence_symbol r.item sep k))) e h),
)
  where
    by : (k : ℕ) → k < 2 → IsNullable g (slot_of (sequence_symbol r.item (Some s) k)) → IsNullable g (slot_of r.item) ⊎ IsNullable g (slot_of s)
    by zero lt h = inl h
    by (suc zero) lt h = inr h
    by (suc (suc k)) lt h = absurd (omega arith)

pub counted_plain : (g : Grammar) (i : ℕ) (p : PlainRule) → rule_at g i ≡ Plain p → IsCountedNullable g i → ⊥
counted_plain g i p e (r, is, h) = let z : Plain p ≡ Sequence r = sym e ∙ is in absurd (cc)

pub counted_sequence : (g : Grammar) (i : ℕ) (r : SequenceRule) → rule_at g i ≡ Sequence r → (HasNullable g r ↔ IsCountedNullable g i)
counted_sequence g i r is =
    (λ h. (r, is, h), λ (q, iq, h). let z : Sequence q ≡ Sequence r = sym iq ∙ is in let same : q ≡ r = cc in subst (HasNullable g) same h)

pub sequence_known : (g g' : Grammar) (i : ℕ) (r : SequenceRule) → g ≡ g' → IsWritten g → i < length g.rules → rule_at g i ≡ Sequence r → (r.item < length g'.names) × IfSome r.separator (λ s. s < length g'.names)
sequence_known g g' i r eg w lt is =
    let all = subst (λ rule. All (λ s. s < length g.names) (symbols_of rule)) is (w.rules_known i lt).0 in
    subst (λ g. (r.item < length g.names) × IfSome r.separator (λ s. s < length g.names)) eg (all 1 0 (omega arith), by r.separator all)
  where
    by : (sep : Option ℕ) → All (λ s. s < length g.names) (r.lhs ∷ r.item ∷ option_to_list sep) → IfSome sep (λ s. s < length g.names)
    by None all = tt
    by (Some s) all = all 2 0 (omega arith)
