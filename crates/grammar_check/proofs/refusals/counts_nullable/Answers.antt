use Rattle.std.proofs.Common.{arith, sym, ◌∙◌, ap, length, true≢false}
use Rattle.grammar_model.specs.Grammar.{Grammar, rule_at}
use Rattle.grammar_core.specs.Written.{rule_of}
use Rattle.grammar_check.proofs.Faults.{sequence_known, counted_plain, counted_sequence}
use Rattle.grammar_check.proofs.refusals.counts_nullable.Goals as goal

pub has_nullable-requires-clause-item : goal.has_nullable-requires-clause-item
has_nullable-requires-clause-item c = (sequence_known c.written-w.result.now c.args.analysis.now c.args.i c.in-Sequence.rule c.written-w.ensures c.rule.ensures.sound
    (let e = ap (λ (g : Grammar). length g.rules) c.written-w.ensures in omega (arith, e, c.requires)) (sym c.rule.ensures.is ∙ ap rule_of c.in-Sequence.is)).0

pub has_nullable-requires-clause-separator : goal.has_nullable-requires-clause-separator
has_nullable-requires-clause-separator c = (sequence_known c.written-w.result.now c.args.analysis.now c.args.i c.in-Sequence.rule c.written-w.ensures c.rule.ensures.sound
    (let e = ap (λ (g : Grammar). length g.rules) c.written-w.ensures in omega (arith, e, c.requires)) (sym c.rule.ensures.is ∙ ap rule_of c.in-Sequence.is)).1

pub returns-in-Plain : goal.returns-in-Plain
returns-in-Plain c = (
  λ t. absurd (true≢false (sym t)),
  λ h. absurd (counted_plain c.args.analysis.now c.args.i c.in-Plain.field-0
      (ap (λ g. rule_at g c.args.i) (sym c.written-w.ensures) ∙ (sym c.rule.ensures.is ∙ ap rule_of c.in-Plain.is)) h),
)

pub returns-in-Sequence : goal.returns-in-Sequence
returns-in-Sequence c =
    let both = counted_sequence c.args.analysis.now c.args.i c.in-Sequence.rule
    (ap (λ g. rule_at g c.args.i) (sym c.written-w.ensures) ∙ (sym c.rule.ensures.is ∙ ap rule_of c.in-Sequence.is)) in
    (λ t. both.0 (c.has_nullable.ensures.0 t), λ h. c.has_nullable.ensures.1 (both.1 h))
