use Rattle.std.proofs.Common.{rules, ◌≡◌, ◌∙◌, ◌≤◌, Err, true, length, sym, ap, arith}
use Rattle.std.proofs.lemmas.Bool.{eqb-true}
use Rattle.slif_base.proofs.Bytes.{rose_before}
use Rattle.marpa_script.specs.Machines.{reading}
use Rattle.marpa_script.specs.declared.refusal.ScriptRefusal.TheVariants.{WriteFault}
use Rattle.marpa_script.proofs.Writing.{played_next, broken_next}
use Rattle.marpa_script.proofs.Whole.{all_answered}
use Rattle.marpa_script.proofs.scripts.read_lines.Goals as goal

pub loop-rest-init : goal.loop-rest-init
loop-rest-init g c = record { text = c.utf8.text; reads = c.requires; played = λ whole first played. played; later = omega arith }

pub loop-rest-preserved : goal.loop-rest-preserved
loop-rest-preserved g c =
    let i = c.loop-rest.invariant in
    record {
      text = search rules;
      reads = c.read_line.ensures.reads;
      played = λ whole first played.
          played_next whole c.loop-rest.rest.now c.first_line.result.0.now c.first_line.result.1.now (reading c.args.w.now c.loop-rest.recce) first (g.K.Sink.contents c.loop-rest.out)
          (i.played whole first played) c.first_line.ensures.lines (reading c.args.w.now c.read_line.new.recce) (g.K.Sink.contents c.read_line.new.out) c.in-Ok.ensures.played;
      later = omega (arith, i.later, c.read_line.ensures.later);
    }

pub returns-in-Err-clause-breaks : goal.returns-in-Err-clause-breaks
returns-in-Err-clause-breaks g c whole first played =
    let i = c.loop-rest.invariant in
    broken_next whole c.loop-rest.rest.now c.first_line.result.0.now c.first_line.result.1.now (reading c.args.w.now c.loop-rest.recce) first (g.K.Sink.contents c.loop-rest.out)
    (i.played whole first played) c.first_line.ensures.lines (g.K.Sink.contents c.read_line.new.out) c.in-Err.ensures.breaks

pub returns-in-Err-clause-fault : goal.returns-in-Err-clause-fault
returns-in-Err-clause-fault g c fault =
    let same : c.in-Err.refusal ≡ WriteFault = cc fault in
    rose_before (g.K.Sink.fault_count c.args.out.now) (g.K.Sink.fault_count c.loop-rest.out) (g.K.Sink.fault_count c.read_line.new.out) c.loop-rest.invariant.later
    (c.read_line.ensures.fault (c.in-Err.is ∙ ap (λ e. Err e) same))

pub returns-clause-played : goal.returns-clause-played
returns-clause-played g c whole first played =
    let empty : c.is_empty.result ≡ true = search in
    let zero = eqb-true (length c.loop-rest.rest.now) 0 (sym c.is_empty.ensures ∙ empty) in
    let over : length c.loop-rest.rest.now ≤ 0 = omega (arith, zero) in
    all_answered whole c.loop-rest.rest.now (reading c.args.w.now c.loop-rest.recce) first (g.K.Sink.contents c.loop-rest.out) (c.loop-rest.invariant.played whole first played) over
