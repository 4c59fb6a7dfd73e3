use Rattle.report_laws.proofs.Seen.{derivations_are_seen}
use Rattle.report_laws.proofs.derivations_are_seen.Goals as goal

pub returns : goal.returns
returns c = derivations_are_seen
