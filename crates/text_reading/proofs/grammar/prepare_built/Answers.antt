use Rattle.text_reading.proofs.grammar.prepare_built.Goals as goal

pub returns-in-Err-clause-refused : goal.returns-in-Err-clause-refused
returns-in-Err-clause-refused c = c.tell_grammars-told.ensures c.args.built c.in-Err.ensures.err
