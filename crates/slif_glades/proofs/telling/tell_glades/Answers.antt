use Rattle.std.proofs.Common.{ℕ, ◌+◌, ◌<◌, Option, None, length, get_or, drop, refl, arith}
use Rattle.run_model.specs.Outside.{stream}
use Rattle.slif_glades.specs.Told.{marked_text, told_text}
use Rattle.slif_glades.specs.Telling.{TextStops}
use Rattle.slif_glades.proofs.Marked.{split_more, up_to_more}
use Rattle.slif_glades.proofs.Stopping.{passed_on, text_behind}
use Rattle.slif_glades.proofs.telling.tell_glades.Goals as goal

pub returns-in_err-tell_glade-clause-stops : goal.returns-in_err-tell_glade-clause-stops
returns-in_err-tell_glade-clause-stops g c =
    let w = c.args.grammar.now.g1 in
    let r = c.args.forest.now.read in
    let glades = c.args.glades.now in
    let marks = c.args.marks.now in
    let at = c.loop-at.at in
    let mark : Option ℕ = get_or marks at None in
    let within : at < length glades = omega (arith, c.loop-at-test.true, c.loop-at.auto.at-end) in
    let before = stream g.K.Sink.contents g.K.Sink.fault_count c.args.out.now in
    let middle = stream g.K.Sink.contents g.K.Sink.fault_count c.loop-at.out in
    let after = stream g.K.Sink.contents g.K.Sink.fault_count c.tell_glade.new.out in
    let stop = c.in_err-tell_glade.field-0.0 in
    let known = c.loop-at.invariant.written in
    let split = split_more w r glades marks at c.index-glades-at.result mark within c.requires.long c.index-glades-at.is refl known.written known.split in
    passed_on (TextStops (told_text w r glades marks) before after) c.from_residual.result stop c.from_residual.ensures.1
    (text_behind before middle after known.written (marked_text w r c.index-glades-at.result mark) (told_text w r (drop (at + 1) glades) (drop (at + 1) marks)) (told_text w r glades marks)
    known.appends c.loop-at.invariant.later split stop c.in_err-tell_glade.ensures.stops)

pub loop-at-preserved : goal.loop-at-preserved
loop-at-preserved g c =
    let at = c.loop-at.at in
    let within : at < length c.args.glades.now = omega (arith, c.loop-at-test.true, c.loop-at.auto.at-end) in
    record {
      written = up_to_more c.args.grammar.now.g1 c.args.forest.now.read c.args.glades.now c.args.marks.now at c.index-glades-at.result (get_or c.args.marks.now at None) within c.requires.long
          c.index-glades-at.is refl _ _ _ c.loop-at.invariant.written c.in_ok-tell_glade.ensures.told;
      later = omega (arith, c.loop-at.invariant.later, c.tell_glade.ensures.later);
    }
