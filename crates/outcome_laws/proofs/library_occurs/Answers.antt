use Rattle.outcome_laws.proofs.Library.{library_occurs}
use Rattle.outcome_laws.proofs.library_occurs.Goals as goal

pub returns : goal.returns
returns c = library_occurs
