use Rattle.std.proofs.Common.{inl, refl, arith}
use Rattle.c_handles.proofs.Gathering.{one_some}
use Rattle.c_handles.proofs.derivations.derive_first.Goals as goal

pub returns-in-Ok-one_of-clause-some : goal.returns-in-Ok-one_of-clause-some
returns-in-Ok-one_of-clause-some c = one_some c.args.reading.now c.args.ranking c.args.shown c.in-Ok.first 0 1 c.in-Ok-one_of.parse c.in-Ok.ensures.first c.in-Ok-one_of.ensures refl (omega arith) (inl refl)
