use Rattle.std.proofs.Common.{◌≡◌, ◌++◌, ◌∷◌, [], length, map, refl, subst, sym}
use Rattle.grammar_core.specs.Steps.{step_of}
use Rattle.grammar_model.specs.Text.{text_of}
use Rattle.grammar_model.specs.Values.{value_of}
use Rattle.run_model.specs.Listing.{tokens_in}
use Rattle.valuator.specs.Play.{AreSteps, tokens_of}
use Rattle.valuator.specs.Player.{Score}
use Rattle.value_lines.proofs.Fitting.{asked_fits, line_is}
use Rattle.value_lines.proofs.derivation.line_of_steps.Goals as goal

pub append_line-requires-clause-list : goal.append_line-requires-clause-list
append_line-requires-clause-list g c =
    let (f, pieces, first, of, asked) = c.requires.asked in
    subst (λ (s : Score). AreSteps s.grammar (length s.spans) (map step_of c.args.list.now)) (sym c.in_ok-player.ensures)
    (asked_fits c.args.prepared.now c.known.ensures.accepted.checked.structural c.known.ensures.ranges c.args.chars.now c.args.spans.now f pieces of first (map step_of c.args.list.now) asked)

pub returns-clause-line : goal.returns-clause-line
returns-clause-line g c show f pieces first alone of asked =
    let b = c.args.prepared.now in
    line_is b c.known.ensures.accepted.checked.structural c.known.ensures.ranges c.args.chars.now c.args.spans.now f pieces of show asked.tree b.g1 b.meaning c.new-line.result.items c.append_line.new.line.items refl refl c.new-line.ensures.items
    (subst (λ (s : Score). c.append_line.new.line.items ≡ c.new-line.result.items ++ (text_of (value_of show s.grammar s.meaning (tokens_of s.chars s.spans) asked.tree) ++ 10 ∷ [])) c.in_ok-player.ensures
    (c.in_ok-append_line.ensures.line show asked.tree alone asked.steps_are))

pub returns-clause-whole : goal.returns-clause-whole
returns-clause-whole g c =
    let b = c.args.prepared.now in
    let (f, pieces, first, of, asked) = c.requires.asked in
    let (show, alone) = c.requires.tellers in
    record { text = text_of (value_of show b.g1 b.meaning (tokens_in c.args.chars.now pieces) asked.tree); ended = returns-clause-line g c show f pieces first alone of asked }
