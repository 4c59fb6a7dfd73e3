use Rattle.std.proofs.Common.{rules, ◌≡◌, ◌∙◌, ◌<◌, ◌≤◌, Err, true, length, sym, ap, subst, arith}
use Rattle.std.proofs.lemmas.Bool.{eqb-true}
use Rattle.std.specs.Prelude.{IfSome}
use Rattle.grammar_model.specs.declared.limits.TheConstants.{MOST_ENTRIES}
use Rattle.slif_base.proofs.Bytes.{rose_before}
use Rattle.flat_model.specs.Flattened.{IsFlattened}
use Rattle.script_model.specs.Machine.{that_reads}
use Rattle.script_model.specs.Replies.{Replies}
use Rattle.marpa_script.specs.Machines.{building, after_precompute}
use Rattle.marpa_script.specs.Written.{Replied}
use Rattle.marpa_script.specs.declared.refusal.ScriptRefusal.TheVariants.{WriteFault}
use Rattle.marpa_script.proofs.Writing.{building_begun, built_on, played_next, broken_next, all_played}
use Rattle.marpa_script.proofs.playing.play_lines.Goals as goal

pub loop-rest-init : goal.loop-rest-init
loop-rest-init g c = record {
  text = c.utf8.text;
  building = building_begun c.args.text.now c.args.w.now (g.K.Sink.contents c.args.out.now) c.requires.blank;
  later = omega arith;
}

pub play_line-requires-clause-names : goal.play_line-requires-clause-names
play_line-requires-clause-names g c =
    let room = c.loop-rest.invariant.building.room.names in
    let few = c.requires.few in
    let lt : length c.loop-rest.w.names < MOST_ENTRIES = omega (arith, room, few) in
    lt

pub play_line-requires-clause-rules : goal.play_line-requires-clause-rules
play_line-requires-clause-rules g c =
    let room = c.loop-rest.invariant.building.room.rules in
    let few = c.requires.few in
    let lt : length c.loop-rest.w.rules < MOST_ENTRIES = omega (arith, room, few) in
    lt

pub loop-rest-preserved : goal.loop-rest-preserved
loop-rest-preserved g c =
    let i = c.loop-rest.invariant in
    let first = c.first_line.result.0.now in
    let mid = g.K.Sink.contents c.loop-rest.out in
    let new = g.K.Sink.contents c.play_line.new.out in
    let replied = subst (λ o. Replied (Replies (building c.loop-rest.w) first) (after_precompute c.play_line.new.w o) mid new) c.in-Ok-None.field-0-is c.in-Ok-None.ensures.played in
    record {
      text = search rules;
      building = built_on c.args.text.now c.loop-rest.rest.now first c.first_line.result.1.now c.loop-rest.w c.play_line.new.w (g.K.Sink.contents c.args.out.now) mid new
          i.building c.first_line.ensures.lines c.first_line.ensures.less replied;
      later = omega (arith, i.later, c.play_line.ensures.later);
    }

pub returns-in-Ok-Some-clause-ready : goal.returns-in-Ok-Some-clause-ready
returns-in-Ok-Some-clause-ready g c =
    let i = c.loop-rest.invariant in
    let first = c.first_line.result.0.now in
    let mid = g.K.Sink.contents c.loop-rest.out in
    let new = g.K.Sink.contents c.play_line.new.out in
    let replied = subst (λ o. Replied (Replies (building c.loop-rest.w) first) (after_precompute c.play_line.new.w o) mid new) c.in-Ok-Some.field-0-is c.in-Ok-Some.ensures.played in
    played_next c.args.text.now c.loop-rest.rest.now first c.first_line.result.1.now (building c.loop-rest.w) (g.K.Sink.contents c.args.out.now) mid
    i.building.played c.first_line.ensures.lines (that_reads (building c.play_line.new.w)) new replied

pub returns-in-Ok-Some-clause-flat : goal.returns-in-Ok-Some-clause-flat
returns-in-Ok-Some-clause-flat g c = subst (λ o. IfSome o (IsFlattened c.play_line.new.w)) c.in-Ok-Some.field-0-is c.in-Ok-Some.ensures.flat

pub returns-in-Err-clause-breaks : goal.returns-in-Err-clause-breaks
returns-in-Err-clause-breaks g c =
    let i = c.loop-rest.invariant in
    broken_next c.args.text.now c.loop-rest.rest.now c.first_line.result.0.now c.first_line.result.1.now (building c.loop-rest.w) (g.K.Sink.contents c.args.out.now)
    (g.K.Sink.contents c.loop-rest.out) i.building.played c.first_line.ensures.lines (g.K.Sink.contents c.play_line.new.out) c.in-Err.ensures.breaks

pub returns-in-Err-clause-fault : goal.returns-in-Err-clause-fault
returns-in-Err-clause-fault g c fault =
    let same : c.in-Err.refusal ≡ WriteFault = cc fault in
    rose_before (g.K.Sink.fault_count c.args.out.now) (g.K.Sink.fault_count c.loop-rest.out) (g.K.Sink.fault_count c.play_line.new.out) c.loop-rest.invariant.later
    (c.play_line.ensures.fault (c.in-Err.is ∙ ap (λ e. Err e) same))

pub returns-clause-all : goal.returns-clause-all
returns-clause-all g c none =
    let empty : c.is_empty.result ≡ true = search in
    let zero = eqb-true (length c.loop-rest.rest.now) 0 (sym c.is_empty.ensures ∙ empty) in
    let over : length c.loop-rest.rest.now ≤ 0 = omega (arith, zero) in
    all_played c.args.text.now c.loop-rest.rest.now (building c.loop-rest.w) (g.K.Sink.contents c.args.out.now) (g.K.Sink.contents c.loop-rest.out) c.loop-rest.invariant.building.played over
