use Rattle.std.proofs.lemmas.Result.{on_ok_weaker}
use Rattle.script_model.specs.Replies.{value_of_tree}
use Rattle.script_trees.proofs.Holding.{none_held}
use Rattle.script_trees.proofs.Putting.{can_now, holds_next, holds_value}
use Rattle.script_trees.proofs.lines.TreeLines.put_line.Goals as goal

pub loop-step-init : goal.loop-step-init
loop-step-init c = none_held _ _ c.clear-2.ensures.items

pub step-requires-clause-held : goal.step-requires-clause-held
step-requires-clause-held c = c.loop-step.invariant.inside

pub step-requires-clause-can : goal.step-requires-clause-can
step-requires-clause-can c = can_now c.args.w.now c.args.steps.now c.loop-step.step-index _ _ c.loop-step.invariant c.step-item.result c.step-item.is c.known.ensures c.requires c.loop-step-test.true

pub loop-step-preserved : goal.loop-step-preserved
loop-step-preserved c = holds_next c.args.w.now c.args.steps.now c.loop-step.step-index _ _ c.loop-step.invariant c.step-item.result c.step-item.is _ _ c.loop-step-test.true c.in_ok-step.ensures

pub put_text-requires : goal.put_text-requires
put_text-requires c = (value_of_tree c.args.w.now c.requires.tree, holds_value c.args.w.now c.args.steps.now c.loop-step.step-index _ _ c.loop-step.invariant c.requires.tree c.loop-step-test.false c.requires.are)

pub returns : goal.returns
returns c =
    on_ok_weaker c.put_text.result
    (λ all t is. all (value_of_tree c.args.w.now t) (holds_value c.args.w.now c.args.steps.now c.loop-step.step-index _ _ c.loop-step.invariant t c.loop-step-test.false is)) c.put_text.ensures
