use Rattle.std.proofs.Common.{ap, length, map, subst, sym}
use Rattle.grammar_model.specs.Grammar.{Grammar}
use Rattle.grammar_core.specs.Steps.{step_of}
use Rattle.valuator.specs.Play.{AreSteps}
use Rattle.valuator.specs.Player.{Score}
use Rattle.value_lines.proofs.Fitting.{one_more, can_play, the_line}
use Rattle.value_lines.proofs.lines.next_line.Goals as goal

pub append_line-requires-clause-list : goal.append_line-requires-clause-list
append_line-requires-clause-list g c =
    let b = c.args.prepared.now in
    let p = c.args.player.now in
    let given = c.requires.given.0 in
    let more = one_more c.in_ok-next.field-0 c.next.new.self given c.if-not-branch.false (c.in_ok-next.ensures.answer given c.requires.given.1) in
    let steps = can_play b c.known.ensures.accepted.checked.structural c.known.ensures.ranges p.chars p.spans c.args.iter.now.forest c.requires.forest.0 c.requires.forest.1
    c.next.new.self c.in_ok-next.ensures.forest given more (map step_of c.current_steps.result.now) c.current_steps.ensures in
    subst (λ (w : Grammar). AreSteps w (length p.spans) (map step_of c.current_steps.result.now)) (sym (ap (λ (s : Score). s.grammar) c.requires.player)) steps

pub returns-clause-line : goal.returns-clause-line
returns-clause-line g c =
    λ show pieces given alone of are.
    let b = c.args.prepared.now in
    let p = c.args.player.now in
    let more = one_more c.in_ok-next.field-0 c.next.new.self given c.if-not-branch.false (c.in_ok-next.ensures.answer given are) in
    the_line b c.known.ensures.accepted.checked.structural c.known.ensures.ranges p.chars p.spans c.args.iter.now.forest pieces of
    show c.next.new.self given more (map step_of c.current_steps.result.now) c.current_steps.ensures
    p.grammar p.meaning c.clear.new.self.items c.append_line.new.line.items (ap (λ (s : Score). s.grammar) c.requires.player) (ap (λ (s : Score). s.meaning) c.requires.player) c.clear.ensures.items
    (λ t is. c.in_ok-append_line.ensures.line show t alone is)
