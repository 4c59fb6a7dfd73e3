use Rattle.std.proofs.Common.{inr}
use Rattle.std.proofs.lemmas.Result.{MatchResult-weaker, on_ok_weaker}
use Rattle.run_model.specs.Outside.{stream}
use Rattle.slif_glades.specs.Telling.{IsOnly, IsToldOfInput, IsToldOfReading, IsInputRefused, IsReadingRefused}
use Rattle.slif_glades.proofs.Few.{few_characters}
use Rattle.slif_glades.proofs.One.{one_text}
use Rattle.slif_glades.proofs.Stopping.{stops_weaker, writes_weaker}
use Rattle.slif_glades.proofs.telling.tell_input.Goals as goal

pub tell_reading-told-requires : goal.tell_reading-told-requires
tell_reading-told-requires g c = few_characters c.args.grammar.now c.args.input.now c.in-Ok.reading c.in-Ok.ensures.read

pub returns-in-Ok-clause-told : goal.returns-in-Ok-clause-told
returns-in-Ok-clause-told g c =
    let b = c.args.grammar.now in
    let r = c.in-Ok.reading in
    on_ok_weaker c.tell_reading-told.result
    (writes_weaker (IsToldOfReading c.args.all b.g1 r) (IsOnly (IsToldOfInput c.args.all b c.args.input.now))
    (λ text told. record { has = (r, c.in-Ok.ensures.read, told); only = λ other has. one_text c.args.all b c.args.input.now other text has (r, c.in-Ok.ensures.read, told) }) _ _)
    c.tell_reading-told.ensures.told

pub returns-in-Ok-clause-stops : goal.returns-in-Ok-clause-stops
returns-in-Ok-clause-stops g c =
    let b = c.args.grammar.now in
    let r = c.in-Ok.reading in
    MatchResult-weaker c.tell_reading-told.result c.tell_reading-told.ensures.stops (λ _ x. x)
    (stops_weaker (IsToldOfReading c.args.all b.g1 r) (IsOnly (IsToldOfInput c.args.all b c.args.input.now))
    (λ text told. record { has = (r, c.in-Ok.ensures.read, told); only = λ other has. one_text c.args.all b c.args.input.now other text has (r, c.in-Ok.ensures.read, told) })
    (IsReadingRefused r) (IsInputRefused b c.args.input.now) (λ e x. inr (r, c.in-Ok.ensures.read, x))
    (stream g.K.Sink.contents g.K.Sink.fault_count c.args.out.now) (stream g.K.Sink.contents g.K.Sink.fault_count c.tell_reading-told.new.out))
