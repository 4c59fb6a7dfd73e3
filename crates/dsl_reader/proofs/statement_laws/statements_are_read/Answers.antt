use Rattle.dsl_reader.proofs.AgainStatement.{statement_again}
use Rattle.dsl_reader.proofs.TakenStatement.{statement_takes}
use Rattle.dsl_reader.proofs.statement_laws.statements_are_read.Goals as goal

pub returns : goal.returns
returns c = λ s tokens. (λ e. statement_takes tokens s e, λ h. statement_again s tokens h)
