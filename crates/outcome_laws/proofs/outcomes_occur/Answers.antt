use Rattle.outcome_laws.proofs.Refusing.{bad_token, bad_statement, bad_description, bad_grammar}
use Rattle.outcome_laws.proofs.Stopping.{stopped}
use Rattle.outcome_laws.proofs.Telling.{value}
use Rattle.outcome_laws.proofs.outcomes_occur.Goals as goal

pub returns : goal.returns
returns c = record {
  value = value;
  stopped = stopped;
  bad_token = bad_token;
  bad_statement = bad_statement;
  bad_description = bad_description;
  bad_grammar = bad_grammar;
}
