use Rattle.prepared_grammars.proofs.parts.checked.Goals as goal

pub returns-in-Err-clause-err : goal.returns-in-Err-clause-err
returns-in-Err-clause-err c = c.fault_of.ensures c.args.w.now c.in-Err.ensures.err c.in-Err.ensures.of
