-- What is true of written grammars, by rule.
use Rattle.std.proofs.Common.{arith, ◌≡◌, ℕ, suc, ◌+◌, ◌<◌, ◌≤◌, List, ◌∷◌, length, All, slice_index, refl, sym, ◌∙◌, ap, subst}
use Rattle.std.proofs.Common.{Bool, true, false, nat_lt, ◌==◌, ◌&&◌, if◌then◌else◌, Option, Some, None, option_to_list, take, drop}
use Rattle.std.proofs.lemmas.Bool.{eqb-true, eqb-false, and_parts}
use Rattle.grammar_model.specs.declared.Assoc.{Assoc}
use Rattle.grammar_model.specs.declared.Assoc.TheVariants.{Left, Right, Group}
use Rattle.grammar_model.specs.Grammar.{WrittenRule, Plain, Sequence, PlainRule, Grammar, rule_at, lhs_of, level_of, tighter, occurs, own_level, child_slot, slot_count, slot_of, sequence_symbol, is_even}
use Rattle.grammar_core.specs.Written.{IsWritten, IsLevelled, symbols_of}
use Rattle.grammar_core.specs.Rules.{groups_of}
use Rattle.grammar_core.proofs.Known.{lhs_known, level_below}
use Rattle.slot_analysis.specs.Slots.{end_of, IsNumbering, IsNumbered, body_count}

pub numbering : (g : Grammar) (rooms sums : List ℕ) → IsWritten g → length rooms ≡ length g.names → ((s : ℕ) → s < length g.names → 0 < slice_index rooms s) →
    ((i : ℕ) → i < length g.rules → groups_of (rule_at g i) ≤ slice_index rooms (lhs_of (rule_at g i))) →
    length sums ≡ suc (length rooms) → slice_index sums 0 ≡ 0 → ((s : ℕ) → s < length rooms → slice_index sums (suc s) ≡ slice_index sums s + slice_index rooms s) → IsNumbering g sums
numbering g rooms sums w e some rules e' begin steps = record {
  sized = e' ∙ ap suc e;
  begin = begin;
  rising = λ s lt. let a = steps s (omega arith) in let b = some s lt in omega (arith, a, b);
  rooms = λ i lt.
      let known = lhs_known g i w lt in
      let a = steps (lhs_of (rule_at g i)) (omega (arith, known, e)) in let b = rules i lt in omega (arith, a, b);
}

-- the tightest slot that a rule fits has a number
pub head_numbered : (g : Grammar) (bases : List ℕ) (i : ℕ) → IsWritten g → IsNumbering g bases → i < length g.rules → slice_index bases (lhs_of (rule_at g i)) + level_of (rule_at g i) < end_of bases (lhs_of (rule_at g i))
head_numbered g bases i w n lt = let a = level_below g i w lt in let b = n.rooms i lt in omega (arith, a, b)

tighter_small : (r : PlainRule) → r.level < r.groups → tighter r < r.groups
tighter_small r lt = by (r.level + 1 == r.groups) refl
  where
    by : (b : Bool) → (r.level + 1 == r.groups) ≡ b → (if b then 0 else r.level + 1) < r.groups
    by true e = omega arith
    by false e = let ne = eqb-false (r.level + 1) r.groups e in omega (arith, ne)

own_small : (a : Assoc) (r : PlainRule) (k : ℕ) → r.level < r.groups → own_level a r k < r.groups
own_small Left r k lt = by (occurs r.lhs (take k r.rhs))
  where
    by : (b : Bool) → (if b then tighter r else r.level) < r.groups
    by true = tighter_small r lt
    by false = lt
own_small Right r k lt = by (occurs r.lhs (drop (suc k) r.rhs))
  where
    by : (b : Bool) → (if b then tighter r else r.level) < r.groups
    by true = tighter_small r lt
    by false = lt
own_small Group r k lt = omega arith

rule_numbered : (g : Grammar) (bases : List ℕ) (rule : WrittenRule) (k : ℕ) → IsNumbering g bases → All (λ s. s < length g.names) (symbols_of rule) → IsLevelled rule →
    slice_index bases (lhs_of rule) + groups_of rule ≤ end_of bases (lhs_of rule) → k < slot_count rule → IsNumbered g bases (child_slot rule k)
rule_numbered g bases (Plain r) k n all levelled room lt =
    let known : slice_index r.rhs k < length g.names = all (suc k) 0 (omega arith) in
    (known, by (nat_lt 1 r.groups && (slice_index r.rhs k == r.lhs)) refl known)
  where
    by : (b : Bool) → (nat_lt 1 r.groups && (slice_index r.rhs k == r.lhs)) ≡ b → slice_index r.rhs k < length g.names → slice_index bases (slice_index r.rhs k) + (if b then own_level r.assoc r k else 0) < end_of bases (slice_index r.rhs k)
    by true e known =
        let same : slice_index r.rhs k ≡ r.lhs = eqb-true (slice_index r.rhs k) r.lhs (and_parts (nat_lt 1 r.groups) (slice_index r.rhs k == r.lhs) e).1 in
        let small = own_small r.assoc r k levelled.0 in
        subst (λ s. slice_index bases s + own_level r.assoc r k < end_of bases s) (sym same) (omega (arith, small, room))
    by false e known = let h = n.rising (slice_index r.rhs k) known in omega (arith, h)
rule_numbered g bases (Sequence r) k n all levelled room lt = by r.separator all
  where
    level_zero : (s : ℕ) → s < length g.names → IsNumbered g bases (slot_of s)
    level_zero s known = (known, (let h = n.rising s known in omega (arith, h)))

    parted : (item separator : ℕ) (b : Bool) → item < length g.names → separator < length g.names → IsNumbered g bases (slot_of (if b then item else separator))
    parted item separator true i s = level_zero item i
    parted item separator false i s = level_zero separator s

    by : (separator : Option ℕ) → All (λ s. s < length g.names) (r.lhs ∷ r.item ∷ option_to_list separator) → IsNumbered g bases (slot_of (sequence_symbol r.item separator k))
    by None all = level_zero r.item (all 1 0 (omega arith))
    by (Some separator) all = parted r.item separator (is_even k) (all 1 0 (omega arith)) (all 2 0 (omega arith))

-- each child slot has a number
pub child_numbered : (g : Grammar) (bases : List ℕ) (i k : ℕ) → IsWritten g → IsNumbering g bases → i < length g.rules → k < slot_count (rule_at g i) → IsNumbered g bases (child_slot (rule_at g i) k)
child_numbered g bases i k w n lt part = rule_numbered g bases (rule_at g i) k n (w.rules_known i lt).0 (w.rules_known i lt).1 (n.rooms i lt) part

pub body_small : (separators : Bool) (rule : WrittenRule) (k : ℕ) → k < body_count separators rule → k < slot_count rule
body_small separators (Plain r) k lt = lt
body_small separators (Sequence r) k lt = by r.plus separators lt
  where
    by : (plus separators : Bool) → k < (if plus then (if separators then suc (length (option_to_list r.separator)) else 1) else 0) → k < suc (length (option_to_list r.separator))
    by true true lt = lt
    by true false lt = omega arith
    by false separators lt = absurd (omega arith)
