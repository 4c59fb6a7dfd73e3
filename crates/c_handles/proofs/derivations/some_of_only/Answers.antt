use Rattle.std.proofs.Common.{inr, refl, arith}
use Rattle.std.proofs.lemmas.Result.{IfOk-weaker}
use Rattle.c_handles.proofs.Gathering.{one_some, only_passed, none_asked}
use Rattle.c_handles.proofs.derivations.some_of_only.Goals as goal

pub returns-then-skip-gt0 : goal.returns-then-skip-gt0
returns-then-skip-gt0 c = λ ranking first.
    only_passed c.args.reading.now ranking c.args.shown c.args.only.now c.args.skip c.args.most _ first c.requires.only c.if-skip-gt0.true c.none.ensures.derivations c.none.ensures.lines c.none.ensures.more

pub returns-then-most-eq0 : goal.returns-then-most-eq0
returns-then-most-eq0 c = λ ranking first.
    none_asked c.args.reading.now ranking c.args.shown c.args.only.now c.args.skip c.args.most _ first (omega (arith, c.if-skip-gt0.false)) c.if-most-eq0.true c.none-parse.ensures.derivations c.none-parse.ensures.lines refl

pub returns : goal.returns
returns c =
    IfOk-weaker c.one_of.result _ _
    (λ parse one ranking first. one_some c.args.reading.now ranking c.args.shown c.args.only.now c.args.skip c.args.most parse first one (omega (arith, c.if-skip-gt0.false)) (omega (arith, c.if-most-eq0.false)) (inr c.requires.only)) c.one_of.ensures
