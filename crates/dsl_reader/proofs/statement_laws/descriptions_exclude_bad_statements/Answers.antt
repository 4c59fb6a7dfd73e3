use Rattle.dsl_reader.proofs.OneDescription.{no_bad_statement}
use Rattle.dsl_reader.proofs.statement_laws.descriptions_exclude_bad_statements.Goals as goal

pub returns : goal.returns
returns c = λ ds tokens at h bad. no_bad_statement ds tokens at h bad
