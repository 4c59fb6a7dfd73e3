use Rattle.reading_laws.proofs.Accepted.{accepted_have_no_fault}
use Rattle.reading_laws.proofs.accepted_have_no_fault.Goals as goal

pub returns : goal.returns
returns c = accepted_have_no_fault
