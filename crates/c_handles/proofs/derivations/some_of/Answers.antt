use Rattle.std.proofs.Common.{◌≡◌, length, ap, ◌∙◌, subst}
use Rattle.std.proofs.lemmas.Result.{IfOk-weaker}
use Rattle.c_handles.specs.Kept.{AreSome}
use Rattle.c_handles.proofs.Gathering.{too_few}
use Rattle.c_handles.proofs.derivations.some_of.Goals as goal

pub gather-requires : goal.gather-requires
gather-requires c = c.in_ok-pass.ensures.read ∙ c.in_ok-derivations.ensures.read_is ∙ c.requires

pub returns-then-branch : goal.returns-then-branch
returns-then-branch c =
    let many = c.in_ok-pass.ensures.passed c.if-branch.true in
    let ranked : c.pass.new.derivations.iteration.forest.ranking ≡ c.args.forest.now.forest.ranking = ap (λ f. f.ranking) (c.in_ok-pass.ensures.forest ∙ ap (λ it. it.forest) c.in_ok-derivations.ensures.is) in
    IfOk-weaker c.gather.result _ _
    (λ parse some. subst (λ n. AreSome c.args.reading.now c.args.forest.now.forest.ranking c.args.shown n c.args.most parse) many.2
    (subst (λ k. AreSome c.args.reading.now k c.args.shown (length many.0) c.args.most parse) ranked (some many.0 many.1))) c.gather.ensures

pub returns : goal.returns
returns c =
    too_few c.args.reading.now c.args.forest.now.forest.ranking c.args.shown c.pass.new.derivations c.args.skip c.args.most _ (c.in_ok-pass.ensures.read ∙ c.in_ok-derivations.ensures.read_is ∙ c.requires)
    (ap (λ f. f.ranking) (c.in_ok-pass.ensures.forest ∙ ap (λ it. it.forest) c.in_ok-derivations.ensures.is)) (c.in_ok-pass.ensures.short c.if-branch.false) c.none.ensures.derivations c.none.ensures.lines c.none.ensures.more
