-- The parts of rules that can stand alone, and the rows of them.
use Rattle.std.proofs.Common.{arith, ◌≡◌, ◌≢◌, ◌⊎◌, ◌↔◌, inl, inr, ℕ, ◌+◌, ◌-◌, ◌<◌, ◌≤◌, Bool, List, length, Contains, get_or, slice_index, refl, sym, ◌∙◌, ap, subst}
use Rattle.std.specs.Bool.{IsTrue}
use Rattle.grammar_model.specs.Grammar.{Grammar, Slot, rule_at, child_slot}
use Rattle.grammar_model.specs.Analysis.{IsNullable, IsProductive, IsAccessible}
use Rattle.grammar_core.specs.Written.{IsWritten}
use Rattle.horn_clauses.specs.Rows.{HasAdded}
use Rattle.jagged.specs.Rows.{row_at}
use Rattle.slot_analysis.specs.Slots.{number, end_of, IsNumbering, IsNumbered, needed_of}
use Rattle.slot_analysis.specs.Steps.{head_of}
use Rattle.grammar_check.specs.Linked.{HasPairs, IsLinkAt, IsLinkOf, IsLinkTo}
use Rattle.horn_clauses.proofs.Search.{same_or_below}
use Rattle.slot_analysis.proofs.Known.{child_numbered}
use Rattle.slot_analysis.proofs.Rounds.{bases_rise}
use Rattle.slot_analysis.proofs.Reaching.{numbered_small}
use Rattle.slot_analysis.proofs.StepLemmas.{needed_small}

-- what is known of slots by their numbers, of a part
pub cause_told : (P : Slot → Type 0) (g : Grammar) (bases keys : List ℕ) (i k x : ℕ) (b : Bool) → IsWritten g → IsNumbering g bases → i < length g.rules → k < needed_of (rule_at g i) →
    ((slot : Slot) → IsNumbered g bases slot → Contains keys (number bases slot) ↔ P slot) → x ≡ number bases (child_slot (rule_at g i) k) → IsTrue b ↔ Contains keys x → IsTrue b ↔ P (child_slot (rule_at g i) k)
cause_told P g bases keys i k x b w n il kl exact e test =
    let both = exact (child_slot (rule_at g i) k) (child_numbered g bases i k w n il (needed_small (rule_at g i) k kl)) in
    (λ t. both.0 (subst (Contains keys) e (test.0 t)), λ p. test.1 (subst (Contains keys) (sym e) (both.1 p)))

module _ (g : Grammar) (i first end : ℕ) (fin : first ≤ needed_of (rule_at g i)) (ein : end ≤ needed_of (rule_at g i))
    (before : (j : ℕ) → j < first → IsNullable g (child_slot (rule_at g i) j)) (at : first < needed_of (rule_at g i) → IsNullable g (child_slot (rule_at g i) first) → ⊥)
    (behind : (j : ℕ) → end ≤ j → j < needed_of (rule_at g i) → IsNullable g (child_slot (rule_at g i) j)) (last : 0 < end → IsNullable g (child_slot (rule_at g i) (end - 1)) → ⊥) where
  pub alone_from : (k : ℕ) → k ≤ first → end ≤ k + 1 → (j : ℕ) → j < needed_of (rule_at g i) → j ≢ k → IsNullable g (child_slot (rule_at g i) j)
  alone_from k a b j jl ne = elim (side j k ne) [ inl low ↦ before j (omega arith) | inr up ↦ behind j (omega arith) jl ]
    where
      side : (j k : ℕ) → j ≢ k → (j < k) ⊎ (k < j)
      side j k ne = grind arith

  pub alone_to : (k : ℕ) → k < needed_of (rule_at g i) → ((j : ℕ) → j < needed_of (rule_at g i) → j ≢ k → IsNullable g (child_slot (rule_at g i) j)) → (k ≤ first) × (end ≤ k + 1)
  alone_to k kl all = (low (le_or first k), up (le_or (k + 1) end))
    where
      le_or : (a b : ℕ) → (a < b) ⊎ (b ≤ a)
      le_or a b = grind arith

      low : (first < k) ⊎ (k ≤ first) → k ≤ first
      low (inl lt) = absurd (at (omega arith) (all first (omega arith) (λ e. omega (arith, e, lt))))
      low (inr le) = le

      up : (k + 1 < end) ⊎ (end ≤ k + 1) → end ≤ k + 1
      up (inl lt) = absurd (last (omega arith) (all (end - 1) (omega arith) (λ e. omega (arith, e, lt))))
      up (inr le) = le

pub pairs_none : (old : List (List ℕ)) (Q : (t h : ℕ) → Type 0) → ((t h : ℕ) → Q t h → ⊥) → HasPairs old old Q
pairs_none old Q none = record { same_length = refl; keeps = λ t h c. c; only = λ t h c. inl c; has = λ t h q. absurd (none t h q) }

pub pairs_added : (old new : List (List ℕ)) (x i : ℕ) → HasAdded old new x i → HasPairs old new (λ t h. (t ≡ x) × (h ≡ i))
pairs_added old new x i a = record {
  same_length = a.same_length;
  keeps = a.keeps;
  only = a.only;
  has = λ t h (e, f). subst (λ t. Contains (row_at new t) h) (sym e) (subst (Contains (row_at new x)) (sym f) a.has);
}

pub pairs_both : (a b c : List (List ℕ)) (P Q R : (t h : ℕ) → Type 0) → ((t h : ℕ) → (P t h ⊎ Q t h) ↔ R t h) → HasPairs a b P → HasPairs b c Q → HasPairs a c R
pairs_both a b c P Q R split p q = record {
  same_length = q.same_length ∙ p.same_length;
  keeps = λ t h m. q.keeps t h (p.keeps t h m);
  only = λ t h m. elim (q.only t h m) [
    | inl mid ↦ elim (p.only t h mid) [ inl old ↦ inl old | inr x ↦ inr ((split t h).0 (inl x)) ]
    | inr x ↦ inr ((split t h).0 (inr x))
  ];
  has = λ t h r. elim ((split t h).1 r) [ inl x ↦ q.keeps t h (p.has t h x) | inr x ↦ q.has t h x ];
}

pub pairs_same : (a b : List (List ℕ)) (P R : (t h : ℕ) → Type 0) → ((t h : ℕ) → P t h ↔ R t h) → HasPairs a b P → HasPairs a b R
pairs_same a b P R same p = record {
  same_length = p.same_length;
  keeps = p.keeps;
  only = λ t h m. elim (p.only t h m) [ inl old ↦ inl old | inr x ↦ inr ((same t h).0 x) ];
  has = λ t h r. p.has t h ((same t h).1 r);
}

module _ (g : Grammar) (bases : List ℕ) where
  pub link_more : (i n x y : ℕ) → x ≡ number bases (child_slot (rule_at g i) n) → y ≡ head_of g bases i → IsAccessible g (child_slot (rule_at g i) n) → IsProductive g (child_slot (rule_at g i) n) →
      ((j : ℕ) → j < needed_of (rule_at g i) → j ≢ n → IsNullable g (child_slot (rule_at g i) j)) → (t h : ℕ) → (IsLinkOf g bases i n t h ⊎ ((t ≡ x) × (h ≡ y))) ↔ IsLinkOf g bases i (n + 1) t h
  link_more i n x y ex ey acc prod alone t h = (
    λ p. elim p [ inl (k, lt, l) ↦ (k, omega arith, l) | inr (e, f) ↦ (n, omega arith, (e ∙ ex, f ∙ ey, acc, prod, alone)) ],
    λ (k, lt, l). elim (same_or_below k n lt) [
      | inl low ↦ inl (k, low, l)
      | inr same ↦ inr (l.0 ∙ (ap (λ k. number bases (child_slot (rule_at g i) k)) same ∙ sym ex), l.1 ∙ sym ey)
    ],
  )

  pub link_skip : (i n : ℕ) → (((j : ℕ) → j < needed_of (rule_at g i) → j ≢ n → IsNullable g (child_slot (rule_at g i) j)) → IsAccessible g (child_slot (rule_at g i) n) → IsProductive g (child_slot (rule_at g i) n) → ⊥) →
      (t h : ℕ) → IsLinkOf g bases i n t h ↔ IsLinkOf g bases i (n + 1) t h
  link_skip i n none t h = (
    λ (k, lt, l). (k, omega arith, l),
    λ (k, lt, l). elim (same_or_below k n lt) [
      | inl low ↦ (k, low, l)
      | inr same ↦ let l' = subst (λ k. IsLinkAt g bases i k t h) same l in absurd (none l'.4 l'.2 l'.3)
    ],
  )

  pub links_more : (n t h : ℕ) → (IsLinkTo g bases n t h ⊎ IsLinkOf g bases n (needed_of (rule_at g n)) t h) ↔ IsLinkTo g bases (n + 1) t h
  links_more n t h = (
    λ p. elim p [ inl (i, lt, l) ↦ (i, omega arith, l) | inr l ↦ (n, omega arith, l) ],
    λ (i, lt, l). elim (same_or_below i n lt) [ inl low ↦ inl (i, low, l) | inr same ↦ inr (subst (λ i. IsLinkOf g bases i (needed_of (rule_at g i)) t h) same l) ],
  )

pub part_below : (g : Grammar) (bases : List ℕ) (i k x : ℕ) → IsWritten g → IsNumbering g bases → i < length g.rules → k < needed_of (rule_at g i) → x ≡ number bases (child_slot (rule_at g i) k) → x < slice_index bases (length g.names)
part_below g bases i k x w n il kl e =
    let h = numbered_small g bases n (child_slot (rule_at g i) k) (child_numbered g bases i k w n il (needed_small (rule_at g i) k kl)) in omega (arith, h, e)

-- a table whose part for one symbol more was filled up
pub filled_more : (v : ℕ → ℕ) (g : Grammar) (bases old new : List ℕ) (n : ℕ) → IsNumbering g bases → n < length g.names → length old ≡ slice_index bases n → length new ≡ end_of bases n →
    ((k d : ℕ) → k < end_of bases n → k < length old → get_or new k d ≡ get_or old k d) → ((k d : ℕ) → length old ≤ k → k < end_of bases n → get_or new k d ≡ v n) →
    ((s x : ℕ) → s < n → slice_index bases s ≤ x → x < end_of bases s → slice_index old x ≡ v s) →
    (s x : ℕ) → s < n + 1 → slice_index bases s ≤ x → x < end_of bases s → slice_index new x ≡ v s
filled_more v g bases old new n num lt size size' same here before s x sl a b = elim (same_or_below s n sl) [
  | inl low ↦
      let r = bases_rise g bases s n num low (omega arith) in let z = num.rising n lt in
      same x 0 (omega (arith, b, r, z)) (omega (arith, b, r, size)) ∙ before s x low a b
  | inr e ↦
      let eb = ap (slice_index bases) e in
      let ee = ap (end_of bases) e in
      here x 0 (omega (arith, a, eb, size)) (omega (arith, b, ee)) ∙ ap v (sym e)
]
