use Rattle.reading_laws.proofs.Some.{pieces_leave_some}
use Rattle.reading_laws.proofs.pieces_leave_some.Goals as goal

pub returns : goal.returns
returns c = pieces_leave_some
