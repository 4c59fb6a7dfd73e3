use Rattle.std.proofs.Common.{◌≡◌}
use Rattle.std.proofs.lemmas.Result.{on_ok_weaker, on_err_weaker}
use Rattle.marpa_script.specs.Told.{told}
use Rattle.marpa_script.specs.Machines.{reading, LineReplies}
use Rattle.marpa_script.proofs.Writing.{line_said, line_broken, none_said}
use Rattle.marpa_script.proofs.scripts.play_short.Goals as goal

pub returns-in-Ok-clause-played : goal.returns-in-Ok-clause-played
returns-in-Ok-clause-played g c =
    on_ok_weaker c.end_line.result
    (line_said (LineReplies (reading c.args.w.now c.args.recce.now) (told c.args.command)) (reading c.args.w.now c.answer_reading.new.recce) c.answer_reading.new.line.items
    (g.K.Sink.contents c.args.out.now) (g.K.Sink.contents c.end_line.new.out) c.in-Ok.ensures.replies) c.end_line.ensures.ok

pub returns-in-Ok-clause-breaks : goal.returns-in-Ok-clause-breaks
returns-in-Ok-clause-breaks g c =
    on_err_weaker c.end_line.result
    (line_broken (LineReplies (reading c.args.w.now c.args.recce.now) (told c.args.command)) (reading c.args.w.now c.answer_reading.new.recce) c.answer_reading.new.line.items
    (g.K.Sink.contents c.args.out.now) (g.K.Sink.contents c.end_line.new.out) c.in-Ok.ensures.replies) c.end_line.ensures.err

pub returns-in-Err-clause-breaks : goal.returns-in-Err-clause-breaks
returns-in-Err-clause-breaks g c = none_said (LineReplies (reading c.args.w.now c.args.recce.now) (told c.args.command)) (g.K.Sink.contents c.args.out.now)
