use Rattle.dsl_reader.proofs.OneDescription.{one_list}
use Rattle.dsl_reader.proofs.statement_laws.description_is_one.Goals as goal

pub returns : goal.returns
returns c = λ ds es tokens h k. one_list ds es _ h k
