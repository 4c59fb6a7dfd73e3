use Rattle.dsl_reader.proofs.SomeDescription.{described_or_bad}
use Rattle.dsl_reader.proofs.statement_laws.description_or_bad_statement.Goals as goal

pub returns : goal.returns
returns c = described_or_bad
