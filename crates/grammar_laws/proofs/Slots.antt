-- Slots are told apart, those that may count are members of a list, and what rules say of slots is decided by their parts.
use Rattle.std.proofs.Common.{arith, ◌≡◌, ◌≢◌, inl, inr, ℕ, ◌<◌, Bool, true, false, IsFalse, List, ◌++◌, length, map, flat_map, Contains, refl, sym, ap, subst}
use Rattle.grammar_model.specs.Grammar.{WrittenRule, Plain, Sequence, Grammar, Slot, slot_of, rule_at, lhs_of, level_of, IsTerminal, Fits, child_slot, slot_count, EachChildSlot, IsChildSlot}
use Rattle.grammar_model.specs.Analysis.{SomeRule, IsStar, EachNeeded}
use Rattle.finite_sets.specs.Decided.{IsDecided}
use Rattle.finite_sets.proofs.Deciding.{both, negated, moved, equal, at_most, some_below, each_below}
use Rattle.finite_sets.proofs.Members.{Among, among_from, among_left, among_right, among_map, among_flat_map, values, among_values}
use Rattle.grammar_model.proofs.Productive.{item_first}

pub same_slot : (s t : Slot) → IsDecided (s ≡ t)
same_slot s t =
    moved (λ (a, b) i. record { symbol = a i; level = b i }) (λ e. (ap (λ (u : Slot). u.symbol) e, ap (λ (u : Slot). u.level) e))
    (both (equal s.symbol t.symbol) (equal s.level t.level))

abbrev pub child_slots : WrittenRule → List Slot
child_slots rule = values (child_slot rule) (slot_count rule)

-- the child slots of the rules, and the slots of the starts
abbrev pub slots : Grammar → List Slot
slots g = flat_map (λ i. child_slots (rule_at g i)) (values (λ i. i) (length g.rules)) ++ map slot_of g.starts

pub child_among : (g : Grammar) (i k : ℕ) → i < length g.rules → k < slot_count (rule_at g i) → Among (child_slot (rule_at g i) k) (slots g)
child_among g i k lt kl =
    among_left _ (flat_map (λ i. child_slots (rule_at g i)) (values (λ i. i) (length g.rules))) (map slot_of g.starts)
    (among_flat_map (λ i. child_slots (rule_at g i)) i _ (values (λ i. i) (length g.rules)) (among_values (λ i. i) (length g.rules) i lt)
    (among_values (child_slot (rule_at g i)) (slot_count (rule_at g i)) k kl))

pub start_among : (g : Grammar) (s : ℕ) → Contains g.starts s → Among (slot_of s) (slots g)
start_among g s h =
    among_right _ (flat_map (λ i. child_slots (rule_at g i)) (values (λ i. i) (length g.rules))) (map slot_of g.starts)
    (among_map slot_of s g.starts (among_from g.starts s h))

-- ---- what rules say

pub false_or : (b : Bool) → IsDecided (IsFalse b)
false_or false = inl refl
false_or true = inr (λ e. absurd (cc))

pub star_decided : (rule : WrittenRule) → IsDecided (IsStar rule)
star_decided (Plain r) = inr (λ h. h)
star_decided (Sequence r) = false_or r.plus

pub fits_decided : (rule : WrittenRule) (slot : Slot) → IsDecided (Fits rule slot)
fits_decided rule slot = both (equal (lhs_of rule) slot.symbol) (at_most slot.level (level_of rule))

pub terminal_decided : (g : Grammar) (s : ℕ) → IsDecided (IsTerminal g s)
terminal_decided g s = each_below (λ i. lhs_of (rule_at g i) ≢ s) (length g.rules) (λ i lt. negated (equal (lhs_of (rule_at g i)) s))

pub some_rule : (g : Grammar) (slot : Slot) (P : WrittenRule → Type 0) → ((i : ℕ) → i < length g.rules → IsDecided (P (rule_at g i))) → IsDecided (SomeRule g slot P)
some_rule g slot P d =
    moved (λ (i, lt, (f, p)). (i, lt, f, p)) (λ (i, lt, f, p). (i, lt, (f, p)))
    (some_below (λ i. Fits (rule_at g i) slot × P (rule_at g i)) (length g.rules) (λ i lt. both (fits_decided (rule_at g i) slot) (d i lt)))

pub each_child : (P : Slot → Type 0) (rule : WrittenRule) → ((k : ℕ) → k < slot_count rule → IsDecided (P (child_slot rule k))) → IsDecided (EachChildSlot P rule)
each_child P rule d = each_below (λ k. P (child_slot rule k)) (slot_count rule) d

pub each_needed : (P : Slot → Type 0) (rule : WrittenRule) → ((k : ℕ) → k < slot_count rule → IsDecided (P (child_slot rule k))) → IsDecided (EachNeeded P rule)
each_needed P (Plain r) d = each_child P (Plain r) d
each_needed P (Sequence r) d = subst (λ s. IsDecided (P (slot_of s))) (item_first r.item r.separator) (d 0 (omega arith))

-- what holds of the child slots goes on
pub needed_on : (P Q : Slot → Type 0) (rule : WrittenRule) → ((k : ℕ) → k < slot_count rule → P (child_slot rule k) → Q (child_slot rule k)) → EachNeeded P rule → EachNeeded Q rule
needed_on P Q (Plain r) f h = λ k kl. f k kl (h k kl)
needed_on P Q (Sequence r) f h =
    subst (λ s. Q (slot_of s)) (item_first r.item r.separator) (f 0 (omega arith) (subst (λ s. P (slot_of s)) (sym (item_first r.item r.separator)) h))

pub child_slot_decided : (rule : WrittenRule) (slot : Slot) → IsDecided (IsChildSlot rule slot)
child_slot_decided rule slot = some_below (λ k. child_slot rule k ≡ slot) (slot_count rule) (λ k kl. same_slot (child_slot rule k) slot)
