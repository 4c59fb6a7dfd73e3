use Rattle.std.proofs.Common.{◌++◌, ◌∷◌, [], map, length}
use Rattle.std.specs.Prelude.{codes, decimal}
use Rattle.std.proofs.lemmas.Result.{on_ok_weaker, on_err_weaker}
use Rattle.report_model.specs.Lines.{report_line}
use Rattle.script_model.specs.Replies.{as_line}
use Rattle.marpa_script.proofs.Following.{then_written, then_broken, broken_before}
use Rattle.marpa_script.proofs.reports.write_report.Goals as goal

pub returns-in-Ok-clause-ok : goal.returns-in-Ok-clause-ok
returns-in-Ok-clause-ok g c = on_ok_weaker c.write_count.result (then_written (map (report_line c.args.w.now c.args.at) c.args.items.now) _ _ _ _ c.in-Ok.ensures.ok) c.write_count.ensures.ok

pub returns-in-Ok-clause-err : goal.returns-in-Ok-clause-err
returns-in-Ok-clause-err g c = on_err_weaker c.write_count.result (then_broken (map (report_line c.args.w.now c.args.at) c.args.items.now) _ _ _ _ c.in-Ok.ensures.ok) c.write_count.ensures.err

pub returns-in-Err-clause-err : goal.returns-in-Err-clause-err
returns-in-Err-clause-err g c =
    broken_before (map (report_line c.args.w.now c.args.at) c.args.items.now) (as_line (codes "reported " ++ decimal (length c.args.items.now)) ∷ []) _ _ c.in-Err.ensures.err
