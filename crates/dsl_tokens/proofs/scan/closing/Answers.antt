use Rattle.std.proofs.Common.{◌∙◌, ◌+◌, ◌<◌, ◌≤◌, sym, ap, drop, length, arith}
use Rattle.std.specs.Prelude.{option_map}
use Rattle.language_model.specs.Tokens.{closing, closes, state_behind}
use Rattle.dsl_tokens.proofs.ClosingLemmas.{closing_next, closing_found, closing_none}
use Rattle.dsl_tokens.proofs.scan.closing.Goals as goal

pub loop-i-preserved : goal.loop-i-preserved
loop-i-preserved c =
    let within : c.loop-i.i < length c.args.text.now = omega arith in
    ap (λ s. option_map (λ k. c.loop-i.i + 1 + k) (closing (drop (c.loop-i.i + 1) c.args.text.now) s)) (c.state_behind-state.ensures ∙ ap (state_behind c.loop-i.state) c.at-c.ensures)
    ∙ closing_next c.args.text.now c.loop-i.i c.loop-i.state within (ap (closes c.loop-i.state) (sym c.at-c.ensures) ∙ sym c.closes.ensures ∙ c.if-closes.false) c.loop-i.invariant

pub returns-then-closes-clause-value : goal.returns-then-closes-clause-value
returns-then-closes-clause-value c =
    let within : c.loop-i.i < length c.args.text.now = omega arith in
    closing_found c.args.text.now c.loop-i.i c.loop-i.state within (ap (closes c.loop-i.state) (sym c.at-c.ensures) ∙ sym c.closes.ensures ∙ c.if-closes.true) c.loop-i.invariant

pub returns-clause-value : goal.returns-clause-value
returns-clause-value c =
    let past : length c.args.text.now ≤ c.loop-i.i = omega arith in
    closing_none c.args.text.now c.loop-i.i c.loop-i.state past c.loop-i.invariant
