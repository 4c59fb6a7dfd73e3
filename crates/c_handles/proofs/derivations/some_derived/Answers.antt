use Rattle.std.proofs.Common.{subst}
use Rattle.std.proofs.lemmas.Result.{IfOk-weaker}
use Rattle.slif_parser.specs.Readings.{IsDerivedAs}
use Rattle.c_handles.proofs.Gathering.{of_forest}
use Rattle.c_handles.proofs.derivations.some_derived.Goals as goal

pub some_of_only-requires-clause-read : goal.some_of_only-requires-clause-read
some_of_only-requires-clause-read c = (subst (IsDerivedAs c.args.reading.now c.requires.0) c.in-Only.is c.requires.1).0.read_is

pub some_of_only-requires-clause-only : goal.some_of_only-requires-clause-only
some_of_only-requires-clause-only c = (subst (IsDerivedAs c.args.reading.now c.requires.0) c.in-Only.is c.requires.1).1

pub some_of-requires : goal.some_of-requires
some_of-requires c = (subst (IsDerivedAs c.args.reading.now c.requires.0) c.in-Forest.is c.requires.1).read_is

pub returns-in-Only : goal.returns-in-Only
returns-in-Only c =
    IfOk-weaker c.some_of_only.result _ _ (λ parse some ranking is. some ranking (subst (IsDerivedAs c.args.reading.now ranking) c.in-Only.is is).0) c.some_of_only.ensures

pub returns-in-Forest : goal.returns-in-Forest
returns-in-Forest c =
    IfOk-weaker c.some_of.result _ _
    (λ parse some ranking is. of_forest c.args.reading.now ranking c.args.shown _ c.args.skip c.args.most parse (subst (IsDerivedAs c.args.reading.now ranking) c.in-Forest.is is) some) c.some_of.ensures
