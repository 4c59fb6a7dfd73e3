use Rattle.std.proofs.Common.{inr}
use Rattle.std.proofs.lemmas.Result.{MatchResult-weaker, on_ok_weaker}
use Rattle.run_model.specs.Outside.{stream}
use Rattle.slif_glades.specs.Telling.{IsOnly, IsToldOf, IsToldOfInput, IsInputRefused, IsRefused}
use Rattle.slif_glades.proofs.Stopping.{stops_weaker, writes_weaker}
use Rattle.slif_glades.proofs.telling.tell.Goals as goal

pub returns-in-Ok-clause-told : goal.returns-in-Ok-clause-told
returns-in-Ok-clause-told g c =
    let b = c.in-Ok.grammar in
    on_ok_weaker c.tell_input-told.result
    (writes_weaker (IsOnly (IsToldOfInput c.args.all b c.args.input.now)) (IsToldOf c.args.all c.args.grammar.now c.args.input.now) (λ text told. (b, c.in-Ok.ensures.accepted, told)) _ _)
    c.tell_input-told.ensures.told

pub returns-in-Ok-clause-stops : goal.returns-in-Ok-clause-stops
returns-in-Ok-clause-stops g c =
    let b = c.in-Ok.grammar in
    MatchResult-weaker c.tell_input-told.result c.tell_input-told.ensures.stops (λ _ x. x)
    (stops_weaker (IsOnly (IsToldOfInput c.args.all b c.args.input.now)) (IsToldOf c.args.all c.args.grammar.now c.args.input.now) (λ text told. (b, c.in-Ok.ensures.accepted, told))
    (IsInputRefused b c.args.input.now) (IsRefused c.args.grammar.now c.args.input.now) (λ e x. inr (b, c.in-Ok.ensures.accepted, x))
    (stream g.K.Sink.contents g.K.Sink.fault_count c.args.out.now) (stream g.K.Sink.contents g.K.Sink.fault_count c.tell_input-told.new.out))
