use Rattle.std.proofs.Common.{◌≡◌, ◌++◌, List, ℕ, ap, sym, subst}
use Rattle.std.specs.Prelude.{OnOk}
use Rattle.grammar_core.specs.Written.{rule_of}
use Rattle.slif_parser.proofs.Ruled.{plain_known, sequence_known, plain_told, sequence_told}
use Rattle.slif_parser.proofs.rules.append_rule.Goals as goal

pub append_plain-requires-clause-lhs : goal.append_plain-requires-clause-lhs
append_plain-requires-clause-lhs c = (plain_known c.args.w.now c.known.ensures c.args.rule c.requires (rule_of c.written_rule.result.now) c.written_rule.ensures c.in-Plain.rule (ap rule_of c.in-Plain.is)).0

pub append_plain-requires-clause-rhs : goal.append_plain-requires-clause-rhs
append_plain-requires-clause-rhs c = (plain_known c.args.w.now c.known.ensures c.args.rule c.requires (rule_of c.written_rule.result.now) c.written_rule.ensures c.in-Plain.rule (ap rule_of c.in-Plain.is)).1

pub append_sequence-requires-clause-lhs : goal.append_sequence-requires-clause-lhs
append_sequence-requires-clause-lhs c = (sequence_known c.args.w.now c.known.ensures c.args.rule c.requires (rule_of c.written_rule.result.now) c.written_rule.ensures c.in-Sequence.rule (ap rule_of c.in-Sequence.is)).0

pub append_sequence-requires-clause-item : goal.append_sequence-requires-clause-item
append_sequence-requires-clause-item c = (sequence_known c.args.w.now c.known.ensures c.args.rule c.requires (rule_of c.written_rule.result.now) c.written_rule.ensures c.in-Sequence.rule (ap rule_of c.in-Sequence.is)).1

pub append_sequence-requires-clause-separator : goal.append_sequence-requires-clause-separator
append_sequence-requires-clause-separator c = (sequence_known c.args.w.now c.known.ensures c.args.rule c.requires (rule_of c.written_rule.result.now) c.written_rule.ensures c.in-Sequence.rule (ap rule_of c.in-Sequence.is)).2

pub returns-in-Plain : goal.returns-in-Plain
returns-in-Plain c =
    subst (λ (text : List ℕ). OnOk c.append_plain.result (c.append_plain.new.line.items ≡ c.args.line.now.items ++ text))
    (sym (plain_told c.args.w.now c.known.ensures c.args.rule c.requires (rule_of c.written_rule.result.now) c.written_rule.ensures c.in-Plain.rule (ap rule_of c.in-Plain.is))) c.append_plain.ensures

pub returns-in-Sequence : goal.returns-in-Sequence
returns-in-Sequence c =
    subst (λ (text : List ℕ). OnOk c.append_sequence.result (c.append_sequence.new.line.items ≡ c.args.line.now.items ++ text))
    (sym (sequence_told c.args.w.now c.known.ensures c.args.rule c.requires (rule_of c.written_rule.result.now) c.written_rule.ensures c.in-Sequence.rule (ap rule_of c.in-Sequence.is))) c.append_sequence.ensures
