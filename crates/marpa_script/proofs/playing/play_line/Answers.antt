use Rattle.std.proofs.Common.{◌≡◌, ◌∙◌, Err, ap}
use Rattle.script_model.specs.Replies.{Replies}
use Rattle.marpa_script.specs.Machines.{building, after_precompute}
use Rattle.marpa_script.specs.declared.refusal.ScriptRefusal.TheVariants.{WriteFault}
use Rattle.marpa_script.proofs.Writing.{line_said, line_broken, none_said}
use Rattle.marpa_script.proofs.playing.play_line.Goals as goal

pub returns-in_default-clause-breaks : goal.returns-in_default-clause-breaks
returns-in_default-clause-breaks g c = none_said (Replies (building c.args.w.now) c.args.text.now) (g.K.Sink.contents c.args.out.now)

pub returns-in-Ok-end_line-clause-played : goal.returns-in-Ok-end_line-clause-played
returns-in-Ok-end_line-clause-played g c =
    line_said (Replies (building c.args.w.now) c.args.text.now) (after_precompute c.answer_line.new.w c.in-Ok.flat) c.answer_line.new.line.items
    (g.K.Sink.contents c.args.out.now) (g.K.Sink.contents c.end_line.new.out) c.in-Ok.ensures.replies c.in-Ok-end_line.ensures.ok

pub returns-in-Err-clause-breaks : goal.returns-in-Err-clause-breaks
returns-in-Err-clause-breaks g c =
    line_broken (Replies (building c.args.w.now) c.args.text.now) (after_precompute c.answer_line.new.w c.in-Ok.flat) c.answer_line.new.line.items
    (g.K.Sink.contents c.args.out.now) (g.K.Sink.contents c.end_line.new.out) c.in-Ok.ensures.replies c.in-Err.ensures.err

pub returns-in-Err-clause-fault : goal.returns-in-Err-clause-fault
returns-in-Err-clause-fault g c fault = let same : c.in-Err.refusal ≡ WriteFault = cc fault in c.end_line.ensures.fault (c.in-Err.is ∙ ap (λ e. Err e) same)
