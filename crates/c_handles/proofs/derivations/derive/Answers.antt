use Rattle.c_handles.proofs.derivations.derive.Goals as goal

pub some_derived-requires : goal.some_derived-requires
some_derived-requires c = (c.args.ranking, c.in-Ok.ensures.derived)

pub returns-in-Ok-some_derived-clause-some : goal.returns-in-Ok-some_derived-clause-some
returns-in-Ok-some_derived-clause-some c = c.in-Ok-some_derived.ensures c.args.ranking c.in-Ok.ensures.derived
