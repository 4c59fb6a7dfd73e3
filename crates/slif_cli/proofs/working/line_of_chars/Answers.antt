use Rattle.std.proofs.lemmas.Result.{on_ok_weaker}
use Rattle.slif_cli.proofs.working.line_of_chars.Goals as goal

pub returns-clause-counted : goal.returns-clause-counted
returns-clause-counted g c =
    on_ok_weaker c.line_of_reading-line.result (λ gives. (c.args.prepared.now, c.requires.grammar, gives c.args.steps.now c.in_ok-reading.ensures.counted)) c.line_of_reading-line.ensures.counted
