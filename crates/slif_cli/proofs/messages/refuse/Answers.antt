use Rattle.std.proofs.Common.{inl, inr, subst}
use Rattle.outside_model.specs.Told.{AppendsPrefix}
use Rattle.run_model.specs.Outside.{stream}
use Rattle.slif_cli.proofs.ErrLines.{breaks}
use Rattle.slif_cli.proofs.OneLine.{tells_write_fault}
use Rattle.slif_cli.proofs.messages.refuse.Goals as goal

pub returns-in-Err : goal.returns-in-Err
returns-in-Err g c =
    let broken = breaks (stream g.E.Sink.contents g.E.Sink.fault_count c.args.err.now) (stream g.E.Sink.contents g.E.Sink.fault_count c.write_all.new.sink) (stream g.E.Sink.contents g.E.Sink.fault_count c.tell.new.err) _ _
    c.in-Err.ensures.cause.failed c.tell.ensures.later
    (subst (AppendsPrefix (g.E.Sink.contents c.args.err.now) (g.E.Sink.contents c.write_all.new.sink)) c.requires c.in-Err.ensures.prefix)
    (tells_write_fault _ _ c.tell.ensures.told) in
    inr (inl (c.tell.ensures.same, broken))
