-- The small grammar is checked, and has its flat grammar; the laws of flat grammars are met there.
use Rattle.std.proofs.Common.{◌≡◌, ℕ, zero, suc, ◌<◌, ◌+◌, length, refl, sym, ap, ◌∙◌, subst, arith, lit<}
use Rattle.std.specs.Prelude.{Contains, ◌^◌, slice_index_or}
use Rattle.std.proofs.lemmas.Bool.{true≢false}
use Rattle.grammar_model.specs.Grammar.{PlainRule, SequenceRule, WrittenRule, Plain, Grammar, rule_at, slot_of, child_slot, slot_count}
use Rattle.grammar_model.specs.Grammar
use Rattle.grammar_model.specs.Analysis.{IsNullable, IsProductive}
use Rattle.grammar_model.specs.Checked.{IsChecked, IsLeft, IsAloneAt, IsDuplicate, IsCountedNullable}
use Rattle.grammar_model.proofs.Cycles.{no_cycle}
use Rattle.flat_model.specs.Flatten.{AreFew, flat_of}
use Rattle.flat_model.specs.Lists.{lists, ListsHaveFlatGrammar}
use Rattle.flat_rules.proofs.ListsDecided.{at, nullable_is, productive_to, decided}
use Rattle.flat_rules.proofs.Law.{flat_grammars_exist}
use Rattle.grammar_model.proofs.Instances.{heights}

-- only the start is nullable
spans : (s k : ℕ) → 0 < s → IsNullable lists (at s k) → ⊥
spans zero k more n = omega arith
spans (suc s) k more n = true≢false (sym ((nullable_is (suc s) k).1 n))

-- ---- the conditions of the check

left : (s : ℕ) → Contains lists.starts s → IsLeft lists s
left s (zero, lt, e) = (0, lit< tt, e)
left s (suc k, lt, e) = absurd (omega arith)

start_productive : (s : ℕ) → Contains lists.starts s → IsProductive lists (slot_of s)
start_productive s (zero, lt, e) = subst (λ z. IsProductive lists (slot_of z)) e (productive_to 0 0 refl)
start_productive s (suc k, lt, e) = absurd (omega arith)

-- the number of the rule with that left side, if it has no other
first_of : (j : ℕ) → j < 5 → Grammar.lhs_of (rule_at lists j) < 2 → Grammar.lhs_of (rule_at lists j) ≡ j
first_of zero lt less = refl
first_of (suc zero) lt less = refl
first_of (suc (suc zero)) lt less = absurd (omega arith)
first_of (suc (suc (suc zero))) lt less = absurd (omega arith)
first_of (suc (suc (suc (suc zero)))) lt less = absurd (omega arith)
first_of (suc (suc (suc (suc (suc j))))) lt less = absurd (omega arith)

sequence_first : (i : ℕ) (r : SequenceRule) → i < 5 → rule_at lists i ≡ Grammar.Sequence r → r.lhs < 2
sequence_first zero r lt is = let e : 0 ≡ r.lhs = ap Grammar.lhs_of is in omega arith
sequence_first (suc zero) r lt is = let e : 1 ≡ r.lhs = ap Grammar.lhs_of is in omega arith
sequence_first (suc (suc zero)) r lt is = cc
sequence_first (suc (suc (suc zero))) r lt is = cc
sequence_first (suc (suc (suc (suc zero)))) r lt is = cc
sequence_first (suc (suc (suc (suc (suc i))))) r lt is = absurd (omega arith)

alone : (i j : ℕ) → i < 5 → j < 5 → IsAloneAt lists i j
alone i j li lj r is e =
    let less = sequence_first i r li is in
    let here : Grammar.lhs_of (rule_at lists i) ≡ r.lhs = ap Grammar.lhs_of is in
    let a = first_of i li (omega arith) in
    let b = first_of j lj (omega arith) in
    omega arith

abbrev mark : WrittenRule → ℕ
mark (Plain r) = slice_index_or r.rhs 1 0
mark (Grammar.Sequence r) = r.lhs + 7

abbrev marked : ℕ → ℕ
marked zero = 2
marked (suc (suc (suc (suc (suc zero))))) = 3
marked (suc (suc (suc (suc (suc (suc zero)))))) = 4
marked (suc (suc (suc (suc (suc (suc (suc n))))))) = n
marked n = 0

marked_back : (i : ℕ) → i < 5 → marked (mark (rule_at lists i)) ≡ i
marked_back zero lt = refl
marked_back (suc zero) lt = refl
marked_back (suc (suc zero)) lt = refl
marked_back (suc (suc (suc zero))) lt = refl
marked_back (suc (suc (suc (suc zero)))) lt = refl
marked_back (suc (suc (suc (suc (suc i))))) lt = absurd (omega arith)

differ : (i : ℕ) → i < 5 → IsDuplicate lists i → ⊥
differ i lt (j, r, s, less, is, is', lefts, same) =
    let e : mark (rule_at lists j) ≡ mark (rule_at lists i) = ap mark is ∙ ap (λ l. slice_index_or l 1 0) same ∙ sym (ap mark is') in
    let a = marked_back i lt in
    let b = marked_back j (omega arith) in
    let c = ap marked e in
    omega arith

-- the parts of the sequence with that number
counted : (i : ℕ) → i < 5 → IsCountedNullable lists i → ⊥
counted i lt (r, is, (k, less, n)) = parts i k lt (subst (λ z. k < slot_count z) (sym is) less) (sequence_first i r lt is) (ap Grammar.lhs_of is) (subst (λ z. IsNullable lists (child_slot z k)) (sym is) n)
  where
    parts : (i k : ℕ) → i < 5 → k < slot_count (rule_at lists i) → r.lhs < 2 → Grammar.lhs_of (rule_at lists i) ≡ r.lhs → IsNullable lists (child_slot (rule_at lists i) k) → ⊥
    parts zero k lt less small e n = spans 1 0 (lit< tt) n
    parts (suc zero) zero lt less small e n = spans 2 0 (lit< tt) n
    parts (suc zero) (suc zero) lt less small e n = spans 4 0 (lit< tt) n
    parts (suc zero) (suc (suc k)) lt less small e n = omega arith
    parts (suc (suc zero)) k lt less small e n = omega arith
    parts (suc (suc (suc zero))) k lt less small e n = omega arith
    parts (suc (suc (suc (suc zero)))) k lt less small e n = omega arith
    parts (suc (suc (suc (suc (suc i))))) k lt less small e n = omega arith

pub checked : IsChecked lists
checked = record {
  some_rule = lit< tt;
  some_start = lit< tt;
  starts_left = left;
  sequences_alone = alone;
  rules_differ = differ;
  items_span = counted;
  starts_productive = start_productive;
  acyclic = no_cycle lists heights;
  heights = heights;
}

-- ---- the flat grammar

abbrev size : WrittenRule → ℕ
size (Plain r) = length r.rhs
size (Grammar.Sequence r) = 0

small_rule : (i : ℕ) → i < 5 → size (rule_at lists i) < 4
small_rule zero lt = lit< tt
small_rule (suc zero) lt = lit< tt
small_rule (suc (suc zero)) lt = lit< tt
small_rule (suc (suc (suc zero))) lt = lit< tt
small_rule (suc (suc (suc (suc zero)))) lt = lit< tt
small_rule (suc (suc (suc (suc (suc i))))) lt = absurd (omega arith)

short : (i : ℕ) (r : PlainRule) → i < 5 → rule_at lists i ≡ Plain r → length r.rhs < 2 ^ 32
short i r lt is =
    let less = small_rule i lt in
    let same : size (rule_at lists i) ≡ length r.rhs = ap size is in
    omega arith

few : AreFew lists (flat_of lists decided)
few = record { symbols = lit< tt; rules = lit< tt; starts = lit< tt; short = short }

pub lists_have_flat_grammar : ListsHaveFlatGrammar
lists_have_flat_grammar =
    let (made, flat, arranged) = flat_grammars_exist lists decided checked few in
    record { checked = checked; decided = decided; listed = refl; made = made; flat = flat; arranged = arranged }
