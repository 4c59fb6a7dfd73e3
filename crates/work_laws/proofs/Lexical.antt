-- The lexical grammar of the job is checked, and has six flat rules.
use Rattle.std.proofs.Common.{◌≡◌, ◌≢◌, ◌∙◌, inr, ℕ, zero, suc, ◌+◌, ◌<◌, ◌≤◌, List, [], ◌∷◌, length, Contains, AllPairs, slice_index_or, refl, sym, ap, subst, arith, lit<, lit≤}
use Rattle.std.proofs.lemmas.Option.{same_Some, none-some}
use Rattle.grammar_model.specs.Grammar.{WrittenRule, Plain, Sequence, IsPlain, Slot, slot_of, rule_at, lhs_of, level_of, slot_count, child_slot, IsTerminal, Fits}
use Rattle.grammar_model.specs.Analysis.{IsProductive, IsAlone, LeadsTo}
use Rattle.grammar_model.specs.Cycles.{HasHeights}
use Rattle.grammar_model.specs.Checked.{IsChecked, StartsAreLeft, RulesDiffer, StartsAreProductive}
use Rattle.grammar_model.proofs.Cycles.{no_cycle}
use Rattle.recognizer_model.specs.declared.flat.FlatSymbol.{FlatSymbol}
use Rattle.recognizer_model.specs.declared.flat.FlatSymbol.TheVariants.{Terminal, Slot as SlotSymbol, Top}
use Rattle.recognizer_model.specs.declared.flat.FlatSource.{FlatSource}
use Rattle.recognizer_model.specs.declared.flat.FlatSource.TheVariants.{Written, Top as OfStart}
use Rattle.recognizer_model.specs.FlatForm.{NamedRule, IsRuleOf, OfPlain, OfList, OfTrailing, OfItem, OfItems, OfSeparated, OfTop, IsUsedSlot, Stands, AsTerminal, AsSlot, StandAll}
use Rattle.recognizer_model.specs.Counts.{IsListOf}
use Rattle.reading_model.specs.Accepted.{HasFewRules}
use Rattle.work_laws.proofs.Building.{work_l0}
use Rattle.work_laws.proofs.Plain.{IsSolid, alone, items_span, no_sequence, zero_level, as_terminal, as_slot}

-- ---- symbols and rules

pub plain : (i : ℕ) → IsPlain (rule_at work_l0 i)
plain zero = tt
plain (suc zero) = tt
plain (suc (suc zero)) = tt
plain (suc (suc (suc i))) = tt

pub one_part : (i : ℕ) → i < 3 → slot_count (rule_at work_l0 i) ≡ 1
one_part zero lt = refl
one_part (suc zero) lt = refl
one_part (suc (suc zero)) lt = refl
one_part (suc (suc (suc i))) lt = absurd (omega arith)

pub solid : IsSolid work_l0
solid = record { plain = plain; parts = λ i lt. (let one = one_part i lt in omega (arith, one)) }

-- a rule's left side is its own number, and its part is the set of that number
pub left_is : (i : ℕ) → i < 3 → lhs_of (rule_at work_l0 i) ≡ i
left_is zero lt = refl
left_is (suc zero) lt = refl
left_is (suc (suc zero)) lt = refl
left_is (suc (suc (suc i))) lt = absurd (omega arith)

pub part_is : (i : ℕ) → i < 3 → child_slot (rule_at work_l0 i) 0 ≡ slot_of (3 + i)
part_is zero lt = refl
part_is (suc zero) lt = refl
part_is (suc (suc zero)) lt = refl
part_is (suc (suc (suc i))) lt = absurd (omega arith)

pub terminal : (n : ℕ) → 3 ≤ n → IsTerminal work_l0 n
terminal n le i lt e = let is = left_is i lt in omega (arith, le, lt, e, is)

pub no_terminal : (n : ℕ) → n < 3 → IsTerminal work_l0 n → ⊥
no_terminal n lt h = h n lt (left_is n lt)

pub fits : (n : ℕ) → n < 3 → Fits (rule_at work_l0 n) (slot_of n)
fits n lt = (left_is n lt, omega arith)

-- ---- productive and accessible slots

part_in : (n k : ℕ) → n < 3 → k < slot_count (rule_at work_l0 n) → IsTerminal work_l0 (child_slot (rule_at work_l0 n) k).symbol
part_in n zero lt kl = subst (λ (s : Slot). IsTerminal work_l0 s.symbol) (sym (part_is n lt)) (terminal (3 + n) (omega arith))
part_in n (suc k) lt kl = let one = one_part n lt in absurd (omega (arith, kl, one))

live : (n k : ℕ) → n < 3 → k < slot_count (rule_at work_l0 n) → IsProductive work_l0 (child_slot (rule_at work_l0 n) k)
live n k lt kl = (0, part_in n k lt kl)

productive : (n : ℕ) → n < 3 → IsProductive work_l0 (slot_of n)
productive zero lt = (1, inr (0, lit< tt, fits 0 (lit< tt), inr (λ k. part_in 0 k (lit< tt))))
productive (suc zero) lt = (1, inr (1, lit< tt, fits 1 (lit< tt), inr (λ k. part_in 1 k (lit< tt))))
productive (suc (suc zero)) lt = (1, inr (2, lit< tt, fits 2 (lit< tt), inr (λ k. part_in 2 k (lit< tt))))
productive (suc (suc (suc n))) lt = absurd (omega arith)

start_is : (n : ℕ) → n < 3 → slice_index_or work_l0.starts n n ≡ n
start_is zero lt = refl
start_is (suc zero) lt = refl
start_is (suc (suc zero)) lt = refl
start_is (suc (suc (suc n))) lt = absurd (omega arith)

used : (n : ℕ) → n < 3 → IsUsedSlot work_l0 (slot_of n)
used n lt = ((0, (n, (n, lt, start_is n lt), refl)), productive n lt)

-- ---- the conditions of the check

-- each start is the number of its place
start_below : (s : ℕ) → Contains work_l0.starts s → s < 3
start_below s (zero, lt, e) = subst (λ z. z < 3) e (lit< tt)
start_below s (suc zero, lt, e) = subst (λ z. z < 3) e (lit< tt)
start_below s (suc (suc zero), lt, e) = subst (λ z. z < 3) e (lit< tt)
start_below s (suc (suc (suc k)), lt, e) = absurd (omega arith)

left : StartsAreLeft work_l0
left s c = let lt = start_below s c in (s, lt, left_is s lt)

start_productive : StartsAreProductive work_l0
start_productive s c = productive s (start_below s c)

differ : RulesDiffer work_l0
differ i lt (j, r, s, less, is, is', lefts, same) =
    let a = left_is i lt in
    let b = left_is j (omega arith) in
    let c : lhs_of (rule_at work_l0 j) ≡ lhs_of (rule_at work_l0 i) = ap lhs_of is ∙ lefts ∙ sym (ap lhs_of is') in
    omega (arith, a, b, c, less)

abbrev height_of : ℕ → ℕ
height_of zero = 1
height_of (suc zero) = 1
height_of (suc (suc zero)) = 1
height_of (suc (suc (suc n))) = 0

high : (n : ℕ) → n < 3 → height_of n ≡ 1
high zero lt = refl
high (suc zero) lt = refl
high (suc (suc zero)) lt = refl
high (suc (suc (suc n))) lt = absurd (omega arith)

low : (n : ℕ) → 3 ≤ n → height_of n ≡ 0
low zero le = absurd (omega arith)
low (suc zero) le = absurd (omega arith)
low (suc (suc zero)) le = absurd (omega arith)
low (suc (suc (suc n))) le = refl

-- the only slot that a rule leads to
only : (rule : WrittenRule) (t : Slot) → IsPlain rule → slot_count rule ≡ 1 → IsAlone work_l0 t rule → child_slot rule 0 ≡ t
only (Plain r) t p one (zero, lt, e, others) = e
only (Plain r) t p one (suc k, lt, e, others) = absurd (omega (arith, one, lt))
only (Sequence r) t p one h = absurd p

falls : (s t : Slot) → LeadsTo work_l0 s t → height_of t.symbol < height_of s.symbol
falls s t (i, lt, f, h) =
    let e : 3 + i ≡ t.symbol = ap (λ (z : Slot). z.symbol) (sym (part_is i lt) ∙ only (rule_at work_l0 i) t (plain i) (one_part i lt) h) in
    let e' : i ≡ s.symbol = sym (left_is i lt) ∙ f.0 in
    let a = high s.symbol (omega (arith, e', lt)) in
    let b = low t.symbol (omega (arith, e)) in
    omega (arith, a, b)

heights : HasHeights work_l0
heights = record { height = λ s. height_of s.symbol; falls = λ s t a p l. falls s t l }

pub l0_checked : IsChecked work_l0
l0_checked = record {
  some_rule = lit< tt;
  some_start = lit< tt;
  starts_left = left;
  sequences_alone = alone work_l0 solid;
  rules_differ = differ;
  items_span = items_span work_l0 solid;
  starts_productive = start_productive;
  acyclic = no_cycle work_l0 heights;
  heights = heights;
}

-- ---- the flat rules

abbrev named : FlatSymbol → FlatSymbol → FlatSource → NamedRule
named left right source = record { left = left; right = right ∷ []; source = source }

abbrev of_set : ℕ → NamedRule
of_set n = named (SlotSymbol n 0) (Terminal (3 + n)) (Written n)

abbrev of_start : ℕ → NamedRule
of_start n = named (Top n) (SlotSymbol n 0) (OfStart n)

abbrev flat : List NamedRule
flat = of_set 0 ∷ of_set 1 ∷ of_set 2 ∷ of_start 0 ∷ of_start 1 ∷ of_start 2 ∷ []

abbrev place_of : FlatSource → ℕ
place_of (Written n) = n
place_of (OfStart n) = 3 + n

placed : (n : ℕ) (d : NamedRule) → n < 6 → place_of (slice_index_or flat n d).source ≡ n
placed zero d lt = refl
placed (suc zero) d lt = refl
placed (suc (suc zero)) d lt = refl
placed (suc (suc (suc zero))) d lt = refl
placed (suc (suc (suc (suc zero)))) d lt = refl
placed (suc (suc (suc (suc (suc zero))))) d lt = refl
placed (suc (suc (suc (suc (suc (suc n)))))) d lt = absurd (omega arith)

once : AllPairs (λ x y. x ≢ y) flat
once m n d lt nl e =
    let a = placed m d (omega (arith, lt, nl)) in
    let b = placed n d nl in
    let c = ap (λ (x : NamedRule). place_of x.source) e in
    omega (arith, a, b, c, lt)

stands_left : (n : ℕ) → n < 3 → Stands work_l0 (slot_of n) (SlotSymbol n 0)
stands_left n lt = AsSlot (no_terminal n lt)

stands_set : (n : ℕ) → 3 ≤ n → Stands work_l0 (slot_of n) (Terminal n)
stands_set n le = AsTerminal (terminal n le)

rule_of : (n : ℕ) (x : NamedRule) → n < 6 → slice_index_or flat n x ≡ x → IsRuleOf work_l0 x
rule_of zero x lt e = subst (IsRuleOf work_l0) e (OfPlain 0 0 0 _ _ (lit< tt) refl (λ h. cc) (λ k. live 0 k (lit< tt)) (refl, lit≤ tt) (used 0 (lit< tt)) refl (stands_set 3 (lit≤ tt), tt))
rule_of (suc zero) x lt e = subst (IsRuleOf work_l0) e (OfPlain 1 1 0 _ _ (lit< tt) refl (λ h. cc) (λ k. live 1 k (lit< tt)) (refl, lit≤ tt) (used 1 (lit< tt)) refl (stands_set 4 (lit≤ tt), tt))
rule_of (suc (suc zero)) x lt e = subst (IsRuleOf work_l0) e (OfPlain 2 2 0 _ _ (lit< tt) refl (λ h. cc) (λ k. live 2 k (lit< tt)) (refl, lit≤ tt) (used 2 (lit< tt)) refl (stands_set 5 (lit≤ tt), tt))
rule_of (suc (suc (suc zero))) x lt e = subst (IsRuleOf work_l0) e (OfTop 0 0 _ refl (stands_left 0 (lit< tt)))
rule_of (suc (suc (suc (suc zero)))) x lt e = subst (IsRuleOf work_l0) e (OfTop 1 1 _ refl (stands_left 1 (lit< tt)))
rule_of (suc (suc (suc (suc (suc zero))))) x lt e = subst (IsRuleOf work_l0) e (OfTop 2 2 _ refl (stands_left 2 (lit< tt)))
rule_of (suc (suc (suc (suc (suc (suc n)))))) x lt e = absurd (omega arith)

set_in : (n : ℕ) → n < 3 → slice_index_or flat n (of_set n) ≡ of_set n
set_in zero lt = refl
set_in (suc zero) lt = refl
set_in (suc (suc zero)) lt = refl
set_in (suc (suc (suc n))) lt = absurd (omega arith)

start_in : (n : ℕ) → n < 3 → slice_index_or flat (3 + n) (of_start n) ≡ of_start n
start_in zero lt = refl
start_in (suc zero) lt = refl
start_in (suc (suc zero)) lt = refl
start_in (suc (suc (suc n))) lt = absurd (omega arith)

-- what stands for the only part of a plain rule
stands_part : (rule : WrittenRule) (right : List FlatSymbol) (slot : Slot) → slot_count rule ≡ 1 → length right ≡ slot_count rule → child_slot rule 0 ≡ slot → StandAll work_l0 rule 0 right → IsTerminal work_l0 slot.symbol →
    Terminal slot.symbol ∷ [] ≡ right
stands_part rule [] slot one long e stand t = absurd (omega (arith, one, long))
stands_part rule (a ∷ []) slot one long e (stand, u) t = ap (λ z. z ∷ []) (as_terminal work_l0 slot a t (subst (λ s. Stands work_l0 s a) e stand))
stands_part rule (a ∷ b ∷ rest) slot one long e stand t = absurd (omega (arith, one, long))

-- a plain rule is one of the first three
of_plain : (n s k : ℕ) (right : List FlatSymbol) → n < 3 → Fits (rule_at work_l0 n) (record { symbol = s; level = k }) → length right ≡ slot_count (rule_at work_l0 n) → StandAll work_l0 (rule_at work_l0 n) 0 right →
    Contains flat (record { left = SlotSymbol s k; right = right; source = Written n })
of_plain n s k right lt f long stand =
    let left_side : n ≡ s = sym (left_is n lt) ∙ f.0 in
    let level : 0 ≡ k = zero_level k (level_zero n lt f.1) in
    let right_side : Terminal (3 + n) ∷ [] ≡ right = stands_part (rule_at work_l0 n) right (slot_of (3 + n)) (one_part n lt) long (part_is n lt) stand (terminal (3 + n) (omega arith)) in
    subst (Contains flat) (λ j. record { left = SlotSymbol (left_side j) (level j); right = right_side j; source = Written n }) (n, omega (arith, lt), set_in n lt)
  where
    level_zero : (n : ℕ) → n < 3 → k ≤ level_of (rule_at work_l0 n) → k ≤ 0
    level_zero zero lt le = le
    level_zero (suc zero) lt le = le
    level_zero (suc (suc zero)) lt le = le
    level_zero (suc (suc (suc n))) lt le = absurd (omega (arith, lt))

top_in : (n start : ℕ) (s : FlatSymbol) → n < 3 → n ≡ start → Stands work_l0 (slot_of start) s → Contains flat (record { left = Top n; right = s ∷ []; source = OfStart n })
top_in n start s lt is stands =
    let here : SlotSymbol n 0 ≡ s = as_slot work_l0 (slot_of n) s (no_terminal n lt) (subst (λ z. Stands work_l0 (slot_of z) s) (sym is) stands) in
    subst (Contains flat) (λ j. named (Top n) (here j) (OfStart n)) (3 + n, omega (arith, lt), start_in n lt)

in_flat : (x : NamedRule) → IsRuleOf work_l0 x → Contains flat x
in_flat x (OfPlain n s k r right lt is some live_rule f used long stand) =
    let P : WrittenRule → Type 0 = λ rule. Fits rule (record { symbol = s; level = k }) × (length right ≡ slot_count rule) × StandAll work_l0 rule 0 right in
    let (f', long', stand') = subst P (sym is) (f, long, stand) in
    of_plain n s k right lt f' long' stand'
in_flat x (OfList n r of is) = absurd (no_sequence (rule_at work_l0 n) r (plain n) is)
in_flat x (OfTrailing n t r c of is e p q s) = absurd (no_sequence (rule_at work_l0 n) r (plain n) is)
in_flat x (OfItem n r b of is s) = absurd (no_sequence (rule_at work_l0 n) r (plain n) is)
in_flat x (OfItems n r b of is e s) = absurd (no_sequence (rule_at work_l0 n) r (plain n) is)
in_flat x (OfSeparated n t r b c of is e p sc sb) = absurd (no_sequence (rule_at work_l0 n) r (plain n) is)
in_flat x (OfTop zero start s e stands) = top_in 0 start s (lit< tt) (same_Some _ _ e) stands
in_flat x (OfTop (suc zero) start s e stands) = top_in 1 start s (lit< tt) (same_Some _ _ e) stands
in_flat x (OfTop (suc (suc zero)) start s e stands) = top_in 2 start s (lit< tt) (same_Some _ _ e) stands
in_flat x (OfTop (suc (suc (suc k))) start s e stands) = absurd (none-some _ e)

listed : IsListOf (IsRuleOf work_l0) flat
listed = record { once = once; exact = λ x. ((λ (n, lt, e). rule_of n x lt e), in_flat x) }

pub l0_few : HasFewRules work_l0
l0_few = record { count = 6; counted = (flat, listed, refl); few = lit≤ tt }
