use Rattle.std.proofs.Common.{refl, subst, sym}
use Rattle.forest_laws.specs.Goals.{Write}
use Rattle.tree_iter.specs.declared.walk.Walk.{Walk}
use Rattle.tree_iter.specs.Walk.{Wrote}
use Rattle.flat_steps.specs.Writing.{IsStepOf, flat_step}
use Rattle.tree_iter.proofs.Walks.{first_of, step_ready, done_on, wrote_one, wrote_longer, write_steps, steps_kept}
use Rattle.tree_iter.proofs.Choosing.{first_on, wrote_on}
use Rattle.tree_iter.proofs.Further.{write_further, further_kept}
use Rattle.std.proofs.lemmas.Result.{IfOk-from_err}
use Rattle.tree_iter.proofs.Walks.{same_before}
use Rattle.tree_iter.proofs.walk.Walk.write.Goals as goal

pub write_step-requires-clause-step : goal.write_step-requires-clause-step
write_step-requires-clause-step c = subst (λ f. IsStepOf f (flat_step c.args.step)) (sym c.flat.ensures) (step_ready c.args.self.now (flat_step c.args.step) c.args.behind c.requires)

pub returns-clause-goes : goal.returns-clause-goes
returns-clause-goes c = λ rest h.
    let w : Walk = c.args.self.now in
    let done = done_on w.forest.now c.written.result.now c.flat.result.now w.counts.items c.write_step.new.counts.items w.steps.items c.write_step.new.steps.items (flat_step c.args.step)
    c.written.ensures c.flat.ensures c.in_ok-write_step.ensures.ok in
    c.let_go.ensures.goes rest (wrote_one w (record w { counts = c.write_step.new.counts; steps = c.write_step.new.steps }) rest (flat_step c.args.step) c.args.behind
    (first_of w (Write (flat_step c.args.step)) c.args.behind c.requires rest h) done)

pub returns-clause-keeps : goal.returns-clause-keeps
returns-clause-keeps c = λ k h.
    let w : Walk = c.args.self.now in
    let n : Walk = record w { left = c.args.behind; counts = c.write_step.new.counts; steps = c.write_step.new.steps } in
    let done = done_on w.forest.now c.written.result.now c.flat.result.now w.counts.items n.counts.items w.steps.items n.steps.items (flat_step c.args.step)
    c.written.ensures c.flat.ensures c.in_ok-write_step.ensures.ok in
    let longer = wrote_longer w n (flat_step c.args.step) c.args.behind c.requires done in
    steps_kept n c.let_go.new.self c.let_go.ensures.keeps c.let_go.ensures.counts k (write_steps w n (flat_step c.args.step) c.args.behind c.requires longer refl refl k h)

pub returns-clause-further : goal.returns-clause-further
returns-clause-further c =
    let w : Walk = c.args.self.now in
    let n : Walk = record w { left = c.args.behind; counts = c.write_step.new.counts; steps = c.write_step.new.steps } in
    let done = done_on w.forest.now c.written.result.now c.flat.result.now w.counts.items n.counts.items w.steps.items n.steps.items (flat_step c.args.step)
    c.written.ensures c.flat.ensures c.in_ok-write_step.ensures.ok in
    let longer = wrote_longer w n (flat_step c.args.step) c.args.behind c.requires done in
    further_kept w n c.let_go.new.self (write_further w n (flat_step c.args.step) c.args.behind c.requires longer refl refl) c.let_go.ensures.keeps c.let_go.ensures.counts

pub returns-in_err-write_step-clause-goes : goal.returns-in_err-write_step-clause-goes
returns-in_err-write_step-clause-goes c = λ rest h.
    same_before c.args.self.now (record c.args.self.now { counts = c.write_step.new.counts; steps = c.write_step.new.steps }) rest c.in_err-write_step.ensures.err.0 c.in_err-write_step.ensures.err.1 h

pub returns-in_err-write_step-clause-keeps : goal.returns-in_err-write_step-clause-keeps
returns-in_err-write_step-clause-keeps c = IfOk-from_err _ _ c.from_residual.ensures.0

pub returns-in_err-write_step-clause-further : goal.returns-in_err-write_step-clause-further
returns-in_err-write_step-clause-further c = IfOk-from_err _ _ c.from_residual.ensures.0

pub returns-clause-on : goal.returns-clause-on
returns-clause-on c = λ lists trail others h.
    let w : Walk = c.args.self.now in
    let done = done_on w.forest.now c.written.result.now c.flat.result.now w.counts.items c.write_step.new.counts.items w.steps.items c.write_step.new.steps.items (flat_step c.args.step)
    c.written.ensures c.flat.ensures c.in_ok-write_step.ensures.ok in
    c.let_go.ensures.on lists (Wrote trail (flat_step c.args.step)) others
    (wrote_on w (record w { counts = c.write_step.new.counts; steps = c.write_step.new.steps }) lists trail (flat_step c.args.step) c.args.behind others
    (first_on w lists trail (Write (flat_step c.args.step)) c.args.behind others c.requires h) done)

pub returns-in_err-write_step-clause-on : goal.returns-in_err-write_step-clause-on
returns-in_err-write_step-clause-on c = IfOk-from_err _ _ c.from_residual.ensures.0
