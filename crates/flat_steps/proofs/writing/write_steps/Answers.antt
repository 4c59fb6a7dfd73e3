use Rattle.std.proofs.Common.{◌≤◌, List, [], length, map, take, sym, subst, ap, ◌∙◌}
use Rattle.std.proofs.lemmas.List.{take_all}
use Rattle.finite_sets.proofs.Lists.{got_item}
use Rattle.forest_laws.specs.Written.{steps_written}
use Rattle.flat_steps.specs.declared.writing.FlatStep.{FlatStep}
use Rattle.flat_steps.specs.Writing.{flat_step}
use Rattle.flat_steps.proofs.Written.{done_none, done_next}
use Rattle.flat_steps.proofs.writing.write_steps.Goals as goal

pub loop-k-init : goal.loop-k-init
loop-k-init c = done_none c.args.written.now c.args.flat.now c.new-counts.result.items c.new-all.result.items c.new-counts.ensures.items c.new-all.ensures.items

pub write_step-requires-clause-step : goal.write_step-requires-clause-step
write_step-requires-clause-step c = c.requires.steps c.step_at.result (got_item c.args.steps.now c.loop-k.k c.step_at.result (sym c.step_at.ensures))

pub write_step-requires-clause-done : goal.write_step-requires-clause-done
write_step-requires-clause-done c = (map flat_step (take c.loop-k.k c.args.steps.now), c.loop-k.invariant)

pub loop-k-preserved : goal.loop-k-preserved
loop-k-preserved c =
    done_next c.args.written.now c.args.flat.now c.args.steps.now c.loop-k.k c.step_at.result c.write_step.new.counts.items c.write_step.new.steps.items c.step_at.ensures
    (c.in_ok-write_step.ensures.ok (map flat_step (take c.loop-k.k c.args.steps.now)) c.loop-k.invariant)

pub returns : goal.returns
returns c =
    let le : length c.args.steps.now ≤ c.loop-k.k = c.loop-k-test.false in
    c.loop-k.invariant.written ∙ ap (λ (l : List FlatStep). steps_written c.args.written.now c.args.flat.now [] (map flat_step l)) (take_all c.loop-k.k c.args.steps.now le)
