use Rattle.std.proofs.Common.{◌<◌, ◌≤◌, ◌^◌, length, sym, ◌∙◌, subst}
use Rattle.grammar_model.specs.declared.limits.TheConstants.{MOST_FLAT_RULES}
use Rattle.grammar_core.specs.Written.{IsWritten}
use Rattle.recognizer_model.specs.Flat.{FlatGrammar}
use Rattle.recognizer_model.specs.Invariant.{IsFlat, IsArranged}
use Rattle.recognizer_model.specs.FlatForm.{IsFlatOf}
use Rattle.flat_model.specs.Flatten.{Decided, flat_of, AreFew}
use Rattle.flat_rules.proofs.Agreeing.{err_too_many, few_enough}
use Rattle.flat_rules.proofs.Deciding.{decided_of}
use Rattle.flat_rules.proofs.Law.{flat_grammars_exist}
use Rattle.flat_rules.proofs.flattening.flatten.Goals as goal

pub returns-in_err-parts-clause-many : goal.returns-in_err-parts-clause-many
returns-in_err-parts-clause-many c =
    let d : Decided c.args.c.now = decided_of c.args.c.now (subst IsWritten c.written.ensures c.known-2.ensures) c.tested.ensures in
    err_too_many c.args.c.now d c.from_residual.result c.in_err-parts.field-0.0 c.from_residual.ensures.1 c.in_err-parts.ensures.many

pub from_parts-requires-clause-flat : goal.from_parts-requires-clause-flat
from_parts-requires-clause-flat c =
    let w = c.args.c.now in
    let written = subst IsWritten c.written.ensures c.known-2.ensures in
    let d : Decided w = decided_of w written c.tested.ensures in
    let same = c.in_ok-parts.ensures.flat d in
    let few : AreFew w (flat_of w d) = few_enough w d written (subst (λ (f : FlatGrammar). length f.symbols < 2 ^ 32) same c.in_ok-parts.ensures.small) (subst (λ (f : FlatGrammar). length f.rules ≤ MOST_FLAT_RULES) same c.in_ok-parts.ensures.few) in
    subst IsFlat (sym same) (flat_grammars_exist w d c.known.ensures.checked few).1

pub from_parts-requires-clause-arranged : goal.from_parts-requires-clause-arranged
from_parts-requires-clause-arranged c =
    let w = c.args.c.now in
    let written = subst IsWritten c.written.ensures c.known-2.ensures in
    let d : Decided w = decided_of w written c.tested.ensures in
    let same = c.in_ok-parts.ensures.flat d in
    let few : AreFew w (flat_of w d) = few_enough w d written (subst (λ (f : FlatGrammar). length f.symbols < 2 ^ 32) same c.in_ok-parts.ensures.small) (subst (λ (f : FlatGrammar). length f.rules ≤ MOST_FLAT_RULES) same c.in_ok-parts.ensures.few) in
    subst IsArranged (sym same) (flat_grammars_exist w d c.known.ensures.checked few).2

pub returns-clause-flat : goal.returns-clause-flat
returns-clause-flat c =
    let w = c.args.c.now in
    let written = subst IsWritten c.written.ensures c.known-2.ensures in
    let d : Decided w = decided_of w written c.tested.ensures in
    let same = c.in_ok-parts.ensures.flat d in
    let few : AreFew w (flat_of w d) = few_enough w d written (subst (λ (f : FlatGrammar). length f.symbols < 2 ^ 32) same c.in_ok-parts.ensures.small) (subst (λ (f : FlatGrammar). length f.rules ≤ MOST_FLAT_RULES) same c.in_ok-parts.ensures.few) in record {
      decided = d;
      listed = λ e. c.from_parts.ensures ∙ c.in_ok-parts.ensures.flat e;
      made = subst (λ f. IsFlatOf f w) (sym (c.from_parts.ensures ∙ same)) (flat_grammars_exist w d c.known.ensures.checked few).0;
      few = subst (λ (f : FlatGrammar). length f.rules ≤ MOST_FLAT_RULES) (sym c.from_parts.ensures) c.in_ok-parts.ensures.few;
    }
