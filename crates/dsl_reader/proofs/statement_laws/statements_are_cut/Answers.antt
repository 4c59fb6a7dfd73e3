use Rattle.dsl_reader.proofs.PieceLemmas.{pieces_back}
use Rattle.dsl_reader.proofs.statement_laws.statements_are_cut.Goals as goal

pub returns : goal.returns
returns c = λ statements pieces. pieces_back statements pieces
