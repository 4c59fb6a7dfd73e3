use Rattle.std.proofs.Common.{sym, ap, ◌∙◌, true≢false}
use Rattle.grammar_core.specs.Written.{rule_of}
use Rattle.grammar_check.specs.Shared.{rows_of}
use Rattle.grammar_check.proofs.Sharing.{texts_skip, texts_more, never_duplicate, duplicate_from}
use Rattle.grammar_check.proofs.shared.is_repeated.Goals as goal

pub returns-in-Sequence : goal.returns-in-Sequence
returns-in-Sequence c =
    let is = sym c.rule.ensures.is ∙ ap rule_of c.in-Sequence.is in
    record {
      repeated = (λ t. absurd (true≢false (sym t)), λ d. absurd (never_duplicate c.args.w.now c.args.i c.in-Sequence.field-0 is d));
      texts = texts_skip c.args.w.now c.args.i (rows_of c.args.texts.now.keys) c.in-Sequence.field-0 is c.requires.texts;
    }

pub returns-in_ok-was-in-Plain-clause-repeated : goal.returns-in_ok-was-in-Plain-clause-repeated
returns-in_ok-was-in-Plain-clause-repeated c =
    let is = sym c.rule.ensures.is ∙ ap rule_of c.in-Plain.is in
    let both = duplicate_from c.args.w.now c.args.i (rows_of c.args.texts.now.keys) c.in-Plain.rule c.in_ok-text-in-Plain.text.items is c.in_ok-text-in-Plain.ensures c.requires.texts in
    (λ t. both.0 (c.in_ok-was-in-Plain.ensures.was.0 t), λ d. c.in_ok-was-in-Plain.ensures.was.1 (both.1 d))

pub returns-in_ok-was-in-Plain-clause-texts : goal.returns-in_ok-was-in-Plain-clause-texts
returns-in_ok-was-in-Plain-clause-texts c =
    let is = sym c.rule.ensures.is ∙ ap rule_of c.in-Plain.is in
    texts_more c.args.w.now c.args.i (rows_of c.args.texts.now.keys) (rows_of c.add_text.new.texts.keys) c.in-Plain.rule c.in_ok-text-in-Plain.text.items is c.in_ok-text-in-Plain.ensures c.requires.texts c.in_ok-was-in-Plain.ensures.added
