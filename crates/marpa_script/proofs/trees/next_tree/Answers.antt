use Rattle.std.proofs.Common.{map}
use Rattle.grammar_core.specs.Steps.{step_of}
use Rattle.marpa_script.proofs.Deriving.{one_more, steps_are, the_line}
use Rattle.marpa_script.proofs.trees.next_tree.Goals as goal

pub put_line-requires : goal.put_line-requires
put_line-requires g c =
    let given = c.requires.given.0 in
    let more = one_more c.in_ok-next.field-0 c.next.new.self given c.if-not-branch.false (c.in_ok-next.ensures.answer given c.requires.given.1) in
    steps_are c.args.w.now c.args.iter.now.forest c.requires.over c.next.new.self c.in_ok-next.ensures.forest given more (map step_of c.current_steps.result.now) c.current_steps.ensures

pub returns-clause-line : goal.returns-clause-line
returns-clause-line g c =
    λ given are.
    let more = one_more c.in_ok-next.field-0 c.next.new.self given c.if-not-branch.false (c.in_ok-next.ensures.answer given are) in
    the_line c.args.w.now c.args.iter.now.forest c.requires.over c.next.new.self given more (map step_of c.current_steps.result.now) c.current_steps.ensures
    c.put_line.new.line.items c.in_ok-put_line.ensures
