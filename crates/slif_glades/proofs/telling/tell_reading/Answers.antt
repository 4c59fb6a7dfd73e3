use Rattle.std.proofs.Common.{subst}
use Rattle.std.proofs.lemmas.Result.{MatchResult-weaker}
use Rattle.run_model.specs.Outside.{stream}
use Rattle.slif_parser.specs.Views.{Read}
use Rattle.slif_glades.specs.Telling.{IsTold, IsToldOfReading, IsReadingRefused}
use Rattle.slif_glades.proofs.Stopping.{stops_weaker}
use Rattle.slif_glades.proofs.telling.tell_reading.Goals as goal

pub returns-in-Ok-clause-stops : goal.returns-in-Ok-clause-stops
returns-in-Ok-clause-stops g c =
    let w = c.args.grammar.now.g1 in
    let is = c.in-Ok.ensures.forest in
    MatchResult-weaker c.tell_forest-told.result c.tell_forest-told.ensures.stops (λ _ x. x)
    (stops_weaker (IsTold c.args.all w c.in-Ok.forest.read) (IsToldOfReading c.args.all w c.args.reading.now)
    (λ text told. (c.in-Ok.forest, is, subst (λ (r : Read). IsTold c.args.all w r text) is.read_is told))
    (λ error. ⊥) (IsReadingRefused c.args.reading.now) (λ e x. absurd x)
    (stream g.K.Sink.contents g.K.Sink.fault_count c.args.out.now) (stream g.K.Sink.contents g.K.Sink.fault_count c.tell_forest-told.new.out))
