use Rattle.std.proofs.Common.{[], ◌∷◌, refl, sym, subst, ap, ◌∙◌}
use Rattle.std.specs.List.{concat}
use Rattle.std.specs.Io.KnownBytes.{Appends}
use Rattle.std.proofs.lemmas.Result.{on_ok_weaker, MatchResult-weaker}
use Rattle.slif_base.proofs.Bytes.{appends_none}
use Rattle.run_model.specs.Numbers.{Numbers}
use Rattle.run_model.specs.Outside.{stream}
use Rattle.run_model.specs.Telling.{stats_line, stats_lines}
use Rattle.value_lines.specs.Counts.{numbers_of}
use Rattle.tellings.specs.Stops.{LinesStop}
use Rattle.tellings.specs.Telling.{AreNumbersOf}
use Rattle.tellings.specs.declared.stop.Stop.TheVariants.{NoMemory}
use Rattle.tellings.proofs.Derived.{asked_lines}
use Rattle.tellings.proofs.Numbered.{same_numbers}
use Rattle.tellings.proofs.Stopping.{passed_on}
use Rattle.tellings.proofs.values.write_stats.Goals as goal

pub returns-then-not-asked-clause-written : goal.returns-then-not-asked-clause-written
returns-then-not-asked-clause-written g c n are =
    subst (λ asked. Appends (g.O.Sink.contents c.args.out.now) (g.O.Sink.contents c.args.out.now) (concat (stats_lines asked n))) (sym c.if-not-asked.true) (appends_none _)

pub returns-in_err-stats-clause-stops : goal.returns-in_err-stats-clause-stops
returns-in_err-stats-clause-stops g c =
    let before = stream g.O.Sink.contents g.O.Sink.fault_count c.args.out.now in
    passed_on (λ stop. (n : Numbers) → AreNumbersOf c.args.forest.now n → LinesStop (stats_lines c.args.asked n) before before stop) c.from_residual.result NoMemory c.from_residual.ensures.1
    (λ n are. record { bytes = []; rest = concat (stats_lines c.args.asked n); split = refl; appends = appends_none before.bytes })

pub returns-in_err-line-clause-stops : goal.returns-in_err-line-clause-stops
returns-in_err-line-clause-stops g c =
    let before = stream g.O.Sink.contents g.O.Sink.fault_count c.args.out.now in
    passed_on (λ stop. (n : Numbers) → AreNumbersOf c.args.forest.now n → LinesStop (stats_lines c.args.asked n) before before stop) c.from_residual-in_err-line.result NoMemory c.from_residual-in_err-line.ensures.1
    (λ n are. record { bytes = []; rest = concat (stats_lines c.args.asked n); split = refl; appends = appends_none before.bytes })

pub returns-clause-written : goal.returns-clause-written
returns-clause-written g c =
    on_ok_weaker c.write_lines.result
    (λ written n are.
    let same = same_numbers c.args.forest.now c.known.ensures c.in_ok-stats.stats c.in_ok-stats.ensures n are in
    subst (λ lines. Appends (g.O.Sink.contents c.args.out.now) (g.O.Sink.contents c.write_lines.new.out) (concat lines))
    (asked_lines c.args.asked c.if-not-asked.false c.in_ok-line.line.items (numbers_of c.in_ok-stats.stats) n c.in_ok-line.ensures same) written)
    c.write_lines.ensures.written

pub returns-clause-stops : goal.returns-clause-stops
returns-clause-stops g c =
    MatchResult-weaker c.write_lines.result c.write_lines.ensures.stops (λ _ x. x)
    (λ stop stops n are.
    let same = same_numbers c.args.forest.now c.known.ensures c.in_ok-stats.stats c.in_ok-stats.ensures n are in
    subst (λ lines. LinesStop lines (stream g.O.Sink.contents g.O.Sink.fault_count c.args.out.now) (stream g.O.Sink.contents g.O.Sink.fault_count c.write_lines.new.out) stop)
    (asked_lines c.args.asked c.if-not-asked.false c.in_ok-line.line.items (numbers_of c.in_ok-stats.stats) n c.in_ok-line.ensures same) stops)
