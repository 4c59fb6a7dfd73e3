use Rattle.std.proofs.Common.{map, refl, ap, ◌∙◌, subst}
use Rattle.std.proofs.lemmas.Result.{IfOk-weaker}
use Rattle.grammar_core.specs.Steps.{step_of}
use Rattle.forest_model.specs.Forest.{Forest}
use Rattle.tree_iter.specs.Iteration.{Iteration}
use Rattle.scanning_calls.specs.Kept.{AreSomeOf}
use Rattle.scanning_calls.proofs.Gathering.{too_few}
use Rattle.scanning_calls.proofs.kept.some_of.Goals as goal

pub returns-then-branch : goal.returns-then-branch
returns-then-branch g c =
    let many = c.in_ok-pass.ensures.passed c.if-branch.true in let same = c.in_ok-pass.ensures.forest ∙ ap (λ (it : Iteration). it.forest) c.in_ok-iter.ensures.begun in
    IfOk-weaker c.gather.result _ _ (λ kept some. subst (λ (f : Forest). AreSomeOf f c.args.skip c.args.most kept) same (subst (λ n. AreSomeOf c.pass.new.iter.forest n c.args.most kept) many.2 (some many.0 many.1))) c.gather.ensures

pub returns : goal.returns
returns g c =
    too_few c.args.forest.now c.pass.new.iter (c.in_ok-pass.ensures.forest ∙ ap (λ (it : Iteration). it.forest) c.in_ok-iter.ensures.begun) c.args.skip c.args.most _
    (c.in_ok-pass.ensures.short c.if-branch.false) (ap (map (λ steps. map step_of steps.items)) c.new-else-branch.ensures.items) refl
