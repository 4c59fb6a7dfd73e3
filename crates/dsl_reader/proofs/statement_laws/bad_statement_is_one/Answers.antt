use Rattle.dsl_reader.proofs.OneDescription.{one_bad_statement}
use Rattle.dsl_reader.proofs.statement_laws.bad_statement_is_one.Goals as goal

pub returns : goal.returns
returns c = λ tokens at other a b. one_bad_statement tokens at other a b
