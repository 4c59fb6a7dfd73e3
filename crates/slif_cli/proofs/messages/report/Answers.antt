use Rattle.std.proofs.Common.{inl, inr, subst, ◌∙◌}
use Rattle.run_model.specs.Outside.{stream}
use Rattle.slif_cli.specs.Stops.{Tells}
use Rattle.slif_cli.proofs.OneLine.{tells_memory, tells_read_fault, tells_write_fault}
use Rattle.slif_cli.proofs.messages.report.Goals as goal

pub returns-in-Ok : goal.returns-in-Ok
returns-in-Ok g c =
    rw c.in-OpenFault.is
    (inl (
      c.tell.ensures.same,
      subst (Tells (stream g.E.Sink.contents g.E.Sink.fault_count c.args.err.now) (stream g.E.Sink.contents g.E.Sink.fault_count c.tell.new.err)) (c.deref.ensures.value ∙ c.in-Ok.ensures) c.tell.ensures.told,
    ))

pub returns-in-Err : goal.returns-in-Err
returns-in-Err g c = rw c.in-OpenFault.is (inr (c.tell-in-Err.ensures.same, tells_memory _ _ c.tell-in-Err.ensures.told))

pub returns-in-ReadFault : goal.returns-in-ReadFault
returns-in-ReadFault g c = rw c.in-ReadFault.is (c.tell-in-ReadFault.ensures.same, tells_read_fault _ _ c.tell-in-ReadFault.ensures.told)

pub returns-in-WriteFault : goal.returns-in-WriteFault
returns-in-WriteFault g c = rw c.in-WriteFault.is (c.tell-in-WriteFault.ensures.same, tells_write_fault _ _ c.tell-in-WriteFault.ensures.told)

pub returns-in-NoMemory : goal.returns-in-NoMemory
returns-in-NoMemory g c = rw c.in-NoMemory.is (c.tell-in-NoMemory.ensures.same, tells_memory _ _ c.tell-in-NoMemory.ensures.told)
