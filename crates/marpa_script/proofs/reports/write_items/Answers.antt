use Rattle.std.proofs.Common.{◌≡◌, ◌∙◌, Err, ap, arith}
use Rattle.slif_base.proofs.Bytes.{rose_before}
use Rattle.report_model.specs.Lines.{report_line}
use Rattle.marpa_script.specs.declared.refusal.ScriptRefusal.TheVariants.{WriteFault}
use Rattle.marpa_script.proofs.Following.{none_told, one_more_told, broken_told, all_told}
use Rattle.marpa_script.proofs.reports.write_items.Goals as goal

pub loop-item-init : goal.loop-item-init
loop-item-init g c = record { written = none_told (report_line c.args.w.now c.args.at) c.args.items.now (g.K.Sink.contents c.args.out.now); later = omega arith }

pub loop-item-preserved : goal.loop-item-preserved
loop-item-preserved g c = record {
  written = one_more_told (report_line c.args.w.now c.args.at) c.args.items.now c.loop-item.item-index _ _ _ _ c.loop-item-test.true c.loop-item.invariant.written c.in-Ok.ensures.ok;
  later = omega (arith, c.loop-item.invariant.later, c.write_item.ensures.later);
}

pub returns-in-Err-clause-err : goal.returns-in-Err-clause-err
returns-in-Err-clause-err g c =
    broken_told (report_line c.args.w.now c.args.at) c.args.items.now c.loop-item.item-index _ _ _ _ c.loop-item-test.true c.loop-item.invariant.written c.in-Err.ensures.err

pub returns-in-Err-clause-fault : goal.returns-in-Err-clause-fault
returns-in-Err-clause-fault g c fault =
    let same : c.in-Err.refusal ≡ WriteFault = cc fault in
    rose_before (g.K.Sink.fault_count c.args.out.now) (g.K.Sink.fault_count c.loop-item.out) (g.K.Sink.fault_count c.write_item.new.out) c.loop-item.invariant.later
    (c.write_item.ensures.fault (c.in-Err.is ∙ ap (λ e. Err e) same))

pub returns-clause-ok : goal.returns-clause-ok
returns-clause-ok g c = all_told (report_line c.args.w.now c.args.at) c.args.items.now c.loop-item.item-index _ _ c.loop-item-test.false c.loop-item.invariant.written
