-- Whether a grammar has each fault but a cycle is decided, with the least witness.
use Rattle.std.proofs.Common.{arith, ◌≡◌, ◌≢◌, ◌⊎◌, inl, inr, ℕ, zero, suc, ◌<◌, List, [], ◌∷◌, length, Some, slice_get, slice_index_or, Contains, refl, sym, ◌∙◌, ap, subst}
use Rattle.grammar_model.specs.Grammar.{WrittenRule, PlainRule, SequenceRule, Plain, Sequence, Grammar, rule_at, lhs_of, child_slot, slot_count}
use Rattle.grammar_model.specs.Analysis.{IsNullable}
use Rattle.grammar_model.specs.Checked.{IsLeft, SequencesAreAlone, IsDuplicate, IsCountedNullable, IsShared, IsLeastWith, IsFirstStart}
use Rattle.finite_sets.specs.Decided.{IsDecided}
use Rattle.finite_sets.proofs.Deciding.{both, negated, moved, equal, some_below, least_below, least_of}
use Rattle.finite_sets.proofs.Members.{equal_lists}
use Rattle.grammar_laws.proofs.Options.{some_held}
use Rattle.grammar_laws.proofs.Tests.{nullable_decided}

got_from : (xs : List ℕ) (k s : ℕ) → k < length xs → slice_index_or xs k s ≡ s → slice_get xs k ≡ Some s
got_from [] k s lt e = absurd (omega arith)
got_from (x ∷ xs) zero s lt e = ap Some e
got_from (x ∷ xs) (suc k) s lt e = got_from xs k s (omega arith) e

plain_sequence : (r : PlainRule) (s : SequenceRule) → Path WrittenRule (Plain r) (Sequence s) → ⊥
plain_sequence r s e = absurd (cc)

abbrev parts_of : WrittenRule → List ℕ
parts_of (Plain r) = r.rhs
parts_of (Sequence r) = []

-- two plain rules that say the same
abbrev SayTheSame : WrittenRule → WrittenRule → Type 0
SayTheSame a b = (r : PlainRule) × (s : PlainRule) × (a ≡ Plain r) × (b ≡ Plain s) × (r.lhs ≡ s.lhs) × (r.rhs ≡ s.rhs)

same_decided : (a b : WrittenRule) → IsDecided (SayTheSame a b)
same_decided (Plain r) (Plain s) =
    moved (λ (x, y). (r, s, refl, refl, x, y))
    (λ (t, u, e, f, x, y). (ap lhs_of e ∙ (x ∙ sym (ap lhs_of f)), ap parts_of e ∙ (y ∙ sym (ap parts_of f))))
    (both (equal r.lhs s.lhs) (equal_lists equal r.rhs s.rhs))
same_decided (Plain r) (Sequence s) = inr (λ (t, u, e, f, x, y). plain_sequence u s (sym f))
same_decided (Sequence r) b = inr (λ (t, u, e, f, x, y). plain_sequence t r (sym e))

abbrev IsSequenceOf : ℕ → WrittenRule → Type 0
IsSequenceOf symbol rule = (r : SequenceRule) × (rule ≡ Sequence r) × (r.lhs ≡ symbol)

sequence_decided : (symbol : ℕ) (rule : WrittenRule) → IsDecided (IsSequenceOf symbol rule)
sequence_decided symbol (Plain r) = inr (λ (s, e, f). plain_sequence r s e)
sequence_decided symbol (Sequence r) = moved (λ e. (r, refl, e)) (λ (s, e, f). ap lhs_of e ∙ f) (equal r.lhs symbol)

module _ (g : Grammar) where
  pub left_decided : (s : ℕ) → IsDecided (IsLeft g s)
  left_decided s = some_below (λ i. lhs_of (rule_at g i) ≡ s) (length g.rules) (λ i lt. equal (lhs_of (rule_at g i)) s)

  -- ---- the first start

  module _ (P : ℕ → Type 0) (d : (s : ℕ) → IsDecided (P s)) where
    abbrev At : ℕ → Type 0
    At k = (s : ℕ) × (slice_get g.starts k ≡ Some s) × P s

    at_decided : (k : ℕ) → IsDecided (At k)
    at_decided k = some_held (slice_get g.starts k) P d

    pub first_start : ((s : ℕ) × IsFirstStart g P s) ⊎ ((s : ℕ) → Contains g.starts s → P s → ⊥)
    first_start = elim (least_below At (length g.starts) (λ k lt. at_decided k)) [
      | inl (k, lt, (s, e, p), none) ↦ inl (s, (k, e, p, (λ j t jl f q. none j jl (t, f, q))))
      | inr none ↦ inr (λ s (k, lt, e) p. none k lt (s, got_from g.starts k s lt e, p))
    ]

  -- ---- a sequence beside another rule

  shared_decided : (symbol : ℕ) → IsDecided (IsShared g symbol)
  shared_decided symbol =
      moved (λ (i, il, ((r, is, e), (j, jl, (ne, f)))). (i, j, r, il, jl, ne, is, e, f)) (λ (i, j, r, il, jl, ne, is, e, f). (i, il, ((r, is, e), (j, jl, (ne, f)))))
      (some_below (λ i. IsSequenceOf symbol (rule_at g i) × ((j : ℕ) × (j < length g.rules) × ((i ≢ j) × (lhs_of (rule_at g j) ≡ symbol)))) (length g.rules)
      (λ i il. both (sequence_decided symbol (rule_at g i))
      (some_below (λ j. (i ≢ j) × (lhs_of (rule_at g j) ≡ symbol)) (length g.rules) (λ j jl. both (negated (equal i j)) (equal (lhs_of (rule_at g j)) symbol)))))

  pub least_shared : ((s : ℕ) × IsLeastWith (IsShared g) s) ⊎ SequencesAreAlone g
  least_shared = elim (some_below (λ i. IsShared g (lhs_of (rule_at g i))) (length g.rules) (λ i il. shared_decided (lhs_of (rule_at g i)))) [
    | inl (i, il, shared) ↦ (let (s, is, none) = least_of (IsShared g) shared_decided (lhs_of (rule_at g i)) shared in inl (s, (is, none)))
    | inr none ↦ inr (λ i j il jl r is e. elim (equal i j) [ inl same ↦ same | inr ne ↦ absurd (none (j, jl, (i, j, r, il, jl, ne, is, sym e, refl))) ])
  ]

  -- ---- a rule that is said again

  duplicate_decided : (i : ℕ) → IsDecided (IsDuplicate g i)
  duplicate_decided i =
      moved (λ (j, lt, (r, s, a, b, e, f)). (j, r, s, lt, a, b, e, f)) (λ (j, r, s, lt, a, b, e, f). (j, lt, (r, s, a, b, e, f)))
      (some_below (λ j. SayTheSame (rule_at g j) (rule_at g i)) i (λ j lt. same_decided (rule_at g j) (rule_at g i)))

  pub least_duplicate : ((i : ℕ) × ((i < length g.rules) × IsLeastWith (IsDuplicate g) i)) ⊎ ((i : ℕ) → i < length g.rules → IsDuplicate g i → ⊥)
  least_duplicate = elim (least_below (IsDuplicate g) (length g.rules) (λ i lt. duplicate_decided i)) [
    | inl (i, lt, p, none) ↦ inl (i, (lt, (p, none)))
    | inr none ↦ inr none
  ]

  -- ---- a sequence whose items or separators are nullable

  abbrev SpansNothing : WrittenRule → Type 0
  SpansNothing rule = (k : ℕ) × (k < slot_count rule) × IsNullable g (child_slot rule k)

  counted_decided : (i : ℕ) → IsDecided (IsCountedNullable g i)
  counted_decided i = go (rule_at g i) refl
    where
      go : (rule : WrittenRule) → rule_at g i ≡ rule → IsDecided (IsCountedNullable g i)
      go (Plain r) e = inr (λ (s, f, h). plain_sequence r s (sym e ∙ f))
      go (Sequence r) e =
          moved (λ h. (r, e, h)) (λ (s, f, h). subst SpansNothing (sym f ∙ e) h)
          (some_below (λ k. IsNullable g (child_slot (Sequence r) k)) (slot_count (Sequence r)) (λ k kl. nullable_decided g (child_slot (Sequence r) k)))

  pub least_counted : ((i : ℕ) × ((i < length g.rules) × IsLeastWith (IsCountedNullable g) i)) ⊎ ((i : ℕ) → i < length g.rules → IsCountedNullable g i → ⊥)
  least_counted = elim (least_below (IsCountedNullable g) (length g.rules) (λ i lt. counted_decided i)) [
    | inl (i, lt, p, none) ↦ inl (i, (lt, (p, none)))
    | inr none ↦ inr none
  ]
