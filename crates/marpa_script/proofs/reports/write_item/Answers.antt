use Rattle.std.proofs.Common.{◌∙◌, subst}
use Rattle.std.specs.Io.KnownBytes.{Appends}
use Rattle.std.proofs.lemmas.Result.{on_ok_weaker, on_err_weaker}
use Rattle.outside_model.specs.Told.{AppendsPrefix}
use Rattle.report_model.specs.Lines.{report_line}
use Rattle.marpa_script.proofs.Following.{nothing_of}
use Rattle.marpa_script.proofs.reports.write_item.Goals as goal

pub returns-in-Ok-clause-ok : goal.returns-in-Ok-clause-ok
returns-in-Ok-clause-ok g c =
    on_ok_weaker c.write_piece.result (subst (Appends (g.K.Sink.contents c.args.out.now) (g.K.Sink.contents c.write_piece.new.out)) (c.deref.ensures.value ∙ c.in-Ok.ensures)) c.write_piece.ensures.ok

pub returns-in-Ok-clause-err : goal.returns-in-Ok-clause-err
returns-in-Ok-clause-err g c =
    on_err_weaker c.write_piece.result (subst (AppendsPrefix (g.K.Sink.contents c.args.out.now) (g.K.Sink.contents c.write_piece.new.out)) (c.deref.ensures.value ∙ c.in-Ok.ensures)) c.write_piece.ensures.err

pub returns-in-Err-clause-err : goal.returns-in-Err-clause-err
returns-in-Err-clause-err g c = nothing_of (report_line c.args.w.now c.args.at c.args.item.now) (g.K.Sink.contents c.args.out.now)
