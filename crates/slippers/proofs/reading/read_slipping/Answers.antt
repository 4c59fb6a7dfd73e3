use Rattle.std.proofs.Common.{◌∙◌}
use Rattle.std.proofs.lemmas.Result.{IfOk-weaker}
use Rattle.earley_sets.proofs.Counting.{counts_first}
use Rattle.slippers.proofs.Supplying.{supplied_first, as_read}
use Rattle.slippers.proofs.reading.read_slipping.Goals as goal

pub read_over-read-requires-clause-begun : goal.read_over-read-requires-clause-begun
read_over-read-requires-clause-begun g c =
    supplied_first c.args.chars.now c.args.p.now c.in-Ok.reader _ c.in-Ok.ensures.grammar c.requires.begun (c.in-Ok.ensures.begun _ c.args.chars.now)

pub returns-in-Ok-read-clause-reading : goal.returns-in-Ok-read-clause-reading
returns-in-Ok-read-clause-reading g c =
    let over = c.in-Ok-read.ensures.over in
    IfOk-weaker c.finish.result _ _
    (λ r is. as_read c.args.p.now c.read_over-read.new.reader.grammar _ c.args.chars.now r.recce r.spans.items r.ending (c.read_over-read.ensures.grammar ∙ c.in-Ok.ensures.grammar) (is _ c.args.chars.now over.0 over.1))
    c.finish.ensures.reading

pub returns-in-Ok-read-clause-counted : goal.returns-in-Ok-read-clause-counted
returns-in-Ok-read-clause-counted g c =
    IfOk-weaker c.finish.result _ _
    (λ r is. is c.args.steps.now _ (c.in-Ok-read.ensures.counted c.args.steps.now (counts_first c.in-Ok.reader.recce c.args.steps.now c.in-Ok.ensures.noted)))
    c.finish.ensures.counted
