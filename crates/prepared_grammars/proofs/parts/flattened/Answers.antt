use Rattle.std.proofs.Common.{refl}
use Rattle.prepared_grammars.proofs.Faults.{many_rules}
use Rattle.prepared_grammars.proofs.parts.flattened.Goals as goal

pub returns-in-Err-TooManyRules-clause-err : goal.returns-in-Err-TooManyRules-clause-err
returns-in-Err-TooManyRules-clause-err c = (refl, many_rules c.args.c.now c.known.ensures.checked (c.in-Err-TooManyRules.ensures.many c.in-Err-TooManyRules.field-0-is))
