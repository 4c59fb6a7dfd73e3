use Rattle.std.proofs.Common.{◌++◌, subst}
use Rattle.std.specs.Prelude.{decimal}
use Rattle.std.specs.Io.KnownBytes.{Appends}
use Rattle.std.proofs.lemmas.Result.{on_ok_weaker, on_err_weaker}
use Rattle.outside_model.specs.Told.{AppendsPrefix}
use Rattle.script_model.specs.Replies.{as_line}
use Rattle.marpa_script.proofs.Following.{nothing_of}
use Rattle.marpa_script.proofs.answers.write_count.Goals as goal

pub returns-in-Ok-clause-ok : goal.returns-in-Ok-clause-ok
returns-in-Ok-clause-ok g c =
    on_ok_weaker c.end_line.result (subst (λ t. Appends (g.K.Sink.contents c.args.out.now) (g.K.Sink.contents c.end_line.new.out) (as_line t)) c.in-Ok.ensures) c.end_line.ensures.ok

pub returns-in-Ok-clause-err : goal.returns-in-Ok-clause-err
returns-in-Ok-clause-err g c =
    on_err_weaker c.end_line.result (subst (λ t. AppendsPrefix (g.K.Sink.contents c.args.out.now) (g.K.Sink.contents c.end_line.new.out) (as_line t)) c.in-Ok.ensures) c.end_line.ensures.err

pub returns-in-Err-clause-err : goal.returns-in-Err-clause-err
returns-in-Err-clause-err g c = nothing_of (as_line (c.args.word.now ++ decimal c.args.count)) (g.K.Sink.contents c.args.out.now)
