-- The rules of a written grammar, by their places.
use Rattle.std.proofs.Common.{ℕ, suc, ◌<◌, Bool, true, false, if◌then◌else◌, ◌∷◌, length, Option, Some, None, option_to_list, arith}
use Rattle.std.specs.Prelude.{All}
use Rattle.grammar_model.specs.Grammar.{WrittenRule, Plain, Sequence, Grammar, rule_at, lhs_of, level_of, child_slot, slot_count, sequence_symbol, is_even}
use Rattle.grammar_core.specs.Written.{IsWritten, IsLevelled, symbols_of}
use Rattle.grammar_core.specs.Rules.{groups_of}

first_symbol : (bound : ℕ) (rule : WrittenRule) → All (λ s. s < bound) (symbols_of rule) → lhs_of rule < bound
first_symbol bound (Plain r) all = all 0 0 (omega arith)
first_symbol bound (Sequence r) all = all 0 0 (omega arith)

pub lhs_known : (g : Grammar) (i : ℕ) → IsWritten g → i < length g.rules → lhs_of (rule_at g i) < length g.names
lhs_known g i w lt = first_symbol (length g.names) (rule_at g i) (w.rules_known i lt).0

pub child_known : (g : Grammar) (i k : ℕ) → IsWritten g → i < length g.rules → k < slot_count (rule_at g i) → (child_slot (rule_at g i) k).symbol < length g.names
child_known g i k w lt part = by (rule_at g i) (w.rules_known i lt).0 part
  where
    either : (item separator : ℕ) (b : Bool) → item < length g.names → separator < length g.names → (if b then item else separator) < length g.names
    either item separator true known other = known
    either item separator false known other = other

    of_sequence : (lhs item : ℕ) (separator : Option ℕ) → All (λ s. s < length g.names) (lhs ∷ item ∷ option_to_list separator) → sequence_symbol item separator k < length g.names
    of_sequence lhs item None all = all 1 0 (omega arith)
    of_sequence lhs item (Some separator) all = either item separator (is_even k) (all 1 0 (omega arith)) (all 2 0 (omega arith))

    by : (rule : WrittenRule) → All (λ s. s < length g.names) (symbols_of rule) → k < slot_count rule → (child_slot rule k).symbol < length g.names
    by (Plain r) all part = all (suc k) 0 (omega arith)
    by (Sequence r) all part = of_sequence r.lhs r.item r.separator all

below_groups : (rule : WrittenRule) → IsLevelled rule → level_of rule < groups_of rule
below_groups (Plain r) h = h.0
below_groups (Sequence r) h = omega arith

pub level_below : (g : Grammar) (i : ℕ) → IsWritten g → i < length g.rules → level_of (rule_at g i) < groups_of (rule_at g i)
level_below g i w lt = below_groups (rule_at g i) (w.rules_known i lt).1
