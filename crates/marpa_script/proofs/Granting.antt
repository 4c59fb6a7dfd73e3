-- What a grammar grants to the lines of a script.
use Rattle.std.proofs.Common.{◌≡◌, ◌∙◌, ℕ, ◌<◌, ◌≤◌, true, cond, ◌&&◌, nat_lt, nat_le, List, [], ◌∷◌, Some, None, length, refl, ap, arith}
use Rattle.std.specs.Prelude.{All, option_to_list}
use Rattle.std.specs.List.{AllByRecursion, list_all}
use Rattle.std.proofs.lemmas.List.Elements.{recursion_from_All}
use Rattle.std.proofs.lemmas.Bool.Decides.{nat_tests}
use Rattle.std.proofs.lemmas.Bool.{or_right}
use Rattle.grammar_model.specs.Grammar.{WrittenRule, Plain, SequenceRule, Sequence, Grammar}
use Rattle.grammar_model.specs.Growth.{has_name}
use Rattle.grammar_model.specs.declared.limits.TheConstants.{MOST_ENTRIES}
use Rattle.recognizer_model.specs.View.{plain_rule}
use Rattle.grammar_core.specs.Written.{symbols_of, has_room, IsLevelled}
use Rattle.grammar_core.specs.Refusals.{name_refusal, rule_refusal, start_refusal, knows, is_levelled, is_short}
use Rattle.grammar_core.specs.declared.refusal.CoreRefusal.TheVariants.{BadSymbol, BadLevel, TooMany}

room : (n : ℕ) → n < MOST_ENTRIES → has_room n ≡ true
room n lt = grind (arith, nat_tests)

below : (s n : ℕ) → s < n → nat_lt s n ≡ true
below s n lt = grind (arith, nat_tests)

within : (m n : ℕ) → m ≤ n → nat_le m n ≡ true
within m n le = grind (arith, nat_tests)

pub name_granted : (g : Grammar) (name : List ℕ) → length g.names < MOST_ENTRIES → name_refusal g name ≡ None
name_granted g name lt = ap (λ b. cond b None (Some TooMany)) (or_right (has_name g name) (has_room (length g.names)) (room (length g.names) lt))

all_known : (g : Grammar) (ss : List ℕ) → AllByRecursion (λ s. s < length g.names) ss → list_all (knows g) ss ≡ true
all_known g [] a = refl
all_known g (s ∷ ss) a = ap (λ b. b && list_all (knows g) ss) (below s (length g.names) a.0) ∙ all_known g ss a.1

levelled : (r : WrittenRule) → IsLevelled r → (is_levelled r ≡ true) × (is_short r ≡ true)
levelled (Plain r) h = (below r.level r.groups h.0, within (length r.rhs) 1000 h.1)
levelled (Sequence r) h = (refl, refl)

rule_granted : (g : Grammar) (r : WrittenRule) → AllByRecursion (λ s. s < length g.names) (symbols_of r) → IsLevelled r → length g.rules < MOST_ENTRIES → rule_refusal g r ≡ None
rule_granted g r known level lt =
    let l = levelled r level in
    ap (λ b. cond b (cond (is_levelled r) (cond (is_short r && has_room (length g.rules)) None (Some TooMany)) (Some BadLevel)) (Some BadSymbol)) (all_known g (symbols_of r) known)
    ∙ ap (λ b. cond b (cond (is_short r && has_room (length g.rules)) None (Some TooMany)) (Some BadLevel)) l.0
    ∙ ap (λ b. cond (b && has_room (length g.rules)) None (Some TooMany)) l.1 ∙ ap (λ b. cond b None (Some TooMany)) (room (length g.rules) lt)

pub plain_granted : (g : Grammar) (r : WrittenRule) (lhs : ℕ) (rhs : List ℕ) → r ≡ plain_rule lhs rhs → lhs < length g.names → All (λ s. s < length g.names) rhs → length rhs ≤ 1000 → length g.rules < MOST_ENTRIES → rule_refusal g r ≡ None
plain_granted g r lhs rhs is left parts short lt =
    ap (rule_refusal g) is ∙ rule_granted g (plain_rule lhs rhs) (left, recursion_from_All (λ s. s < length g.names) rhs parts) (omega arith, short) lt

pub sequence_granted : (g : Grammar) (r : SequenceRule) → r.lhs < length g.names → r.item < length g.names → All (λ s. s < length g.names) (option_to_list r.separator) → length g.rules < MOST_ENTRIES →
    rule_refusal g (Sequence r) ≡ None
sequence_granted g r left item between lt =
    rule_granted g (Sequence r) (left, (item, recursion_from_All (λ s. s < length g.names) (option_to_list r.separator) between)) tt lt

pub start_granted : (g : Grammar) (s : ℕ) → s < length g.names → length g.starts < MOST_ENTRIES → start_refusal g s ≡ None
start_granted g s known lt =
    ap (λ b. cond b (cond (has_room (length g.starts)) None (Some TooMany)) (Some BadSymbol)) (below s (length g.names) known) ∙ ap (λ b. cond b None (Some TooMany)) (room (length g.starts) lt)
