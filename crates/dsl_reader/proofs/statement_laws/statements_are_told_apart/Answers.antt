use Rattle.dsl_reader.proofs.PlaceLemmas.{same_unplaced}
use Rattle.dsl_reader.proofs.statement_laws.statements_are_told_apart.Goals as goal

pub returns : goal.returns
returns c = λ s r tokens others h k e. same_unplaced s r tokens others h k e
