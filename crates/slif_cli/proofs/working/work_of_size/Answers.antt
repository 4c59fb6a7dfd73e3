use Rattle.std.proofs.Common.{[], ◌∷◌}
use Rattle.std.proofs.lemmas.Result.{on_ok_weaker, MatchResult-weaker}
use Rattle.run_model.specs.Outside.{stream}
use Rattle.run_model.specs.Outcome.{IsWorkOutcome}
use Rattle.tellings.proofs.Stopping.{lines_done, lines_stop, memory_stops}
use Rattle.slif_cli.proofs.working.work_of_size.Goals as goal

pub returns-clause-done : goal.returns-clause-done
returns-clause-done g c =
    on_ok_weaker c.write_lines.result (lines_done (IsWorkOutcome c.args.size) (c.in_ok-line.line.items ∷ []) c.in_ok-line.ensures.line _ _) c.write_lines.ensures.written

pub returns-clause-stops : goal.returns-clause-stops
returns-clause-stops g c =
    MatchResult-weaker c.write_lines.result c.write_lines.ensures.stops (λ _ x. x)
    (lines_stop (IsWorkOutcome c.args.size) (c.in_ok-line.line.items ∷ []) c.in_ok-line.ensures.line
    (stream g.O.Sink.contents g.O.Sink.fault_count c.args.out.now) (stream g.O.Sink.contents g.O.Sink.fault_count c.write_lines.new.out))

pub returns-in_err-line-clause-stops : goal.returns-in_err-line-clause-stops
returns-in_err-line-clause-stops g c =
    memory_stops (IsWorkOutcome c.args.size) (stream g.O.Sink.contents g.O.Sink.fault_count c.args.out.now) c.from_residual.result c.from_residual.ensures.1

pub returns-clause-counted : goal.returns-clause-counted
returns-clause-counted g c = on_ok_weaker c.write_lines.result (λ _. c.in_ok-line.ensures.counted) c.write_lines.ensures.written
