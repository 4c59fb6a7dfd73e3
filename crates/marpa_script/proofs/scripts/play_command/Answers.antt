use Rattle.std.proofs.Common.{◌≡◌, refl, sym, subst}
use Rattle.std.specs.Prelude.{OnOk, OnErr}
use Rattle.std.proofs.lemmas.Result.{on_ok_weaker, on_err_weaker}
use Rattle.script_model.specs.Replies.{ReportReplies, TreesReply}
use Rattle.script_model.specs.Commands as model
use Rattle.marpa_script.specs.declared.commands.Command.{Command}
use Rattle.marpa_script.specs.Told.{told}
use Rattle.marpa_script.specs.Machines.{reading, LineReplies}
use Rattle.marpa_script.specs.Written.{Replied, BreaksOff}
use Rattle.marpa_script.proofs.Whole.{replied_as, broken_as, report_line, trees_line, report_told, trees_told}
use Rattle.marpa_script.proofs.scripts.play_command.Goals as goal

pub play_short-requires-clause-report : goal.play_short-requires-clause-report
play_short-requires-clause-report g c n e = c.in_default.not-Report n (report_told c.args.command n e)

pub play_short-requires-clause-trees : goal.play_short-requires-clause-trees
play_short-requires-clause-trees g c n e = c.in_default.not-Trees n (trees_told c.args.command n e)

pub returns-in-Report-clause-played : goal.returns-in-Report-clause-played
returns-in-Report-clause-played g c =
    let m = reading c.args.w.now c.args.recce.now in
    subst (λ (x : Command). OnOk c.play_report.result (Replied (LineReplies m (told x)) m (g.K.Sink.contents c.args.out.now) (g.K.Sink.contents c.play_report.new.out))) (sym c.in-Report.is)
    (on_ok_weaker c.play_report.result (replied_as {P = ReportReplies m c.in-Report.at} (report_line m refl c.in-Report.at) m _ _) c.play_report.ensures.played)

pub returns-in-Report-clause-breaks : goal.returns-in-Report-clause-breaks
returns-in-Report-clause-breaks g c =
    let m = reading c.args.w.now c.args.recce.now in
    subst (λ (x : Command). OnErr c.play_report.result (BreaksOff (LineReplies m (told x)) (g.K.Sink.contents c.args.out.now) (g.K.Sink.contents c.play_report.new.out))) (sym c.in-Report.is)
    (on_err_weaker c.play_report.result (broken_as {P = ReportReplies m c.in-Report.at} (report_line m refl c.in-Report.at) m _ _) c.play_report.ensures.breaks)

pub returns-in-Trees-clause-played : goal.returns-in-Trees-clause-played
returns-in-Trees-clause-played g c =
    let m = reading c.args.w.now c.args.recce.now in
    subst (λ (x : Command). OnOk c.play_trees.result (Replied (LineReplies m (told x)) m (g.K.Sink.contents c.args.out.now) (g.K.Sink.contents c.play_trees.new.out))) (sym c.in-Trees.is)
    (on_ok_weaker c.play_trees.result (replied_as {P = TreesReply m c.in-Trees.count} (trees_line m refl c.in-Trees.count) m _ _) c.play_trees.ensures.played)

pub returns-in-Trees-clause-breaks : goal.returns-in-Trees-clause-breaks
returns-in-Trees-clause-breaks g c =
    let m = reading c.args.w.now c.args.recce.now in
    subst (λ (x : Command). OnErr c.play_trees.result (BreaksOff (LineReplies m (told x)) (g.K.Sink.contents c.args.out.now) (g.K.Sink.contents c.play_trees.new.out))) (sym c.in-Trees.is)
    (on_err_weaker c.play_trees.result (broken_as {P = TreesReply m c.in-Trees.count} (trees_line m refl c.in-Trees.count) m _ _) c.play_trees.ensures.breaks)
