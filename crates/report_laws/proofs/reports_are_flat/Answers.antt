use Rattle.report_laws.proofs.Flat.{reports_are_flat}
use Rattle.report_laws.proofs.reports_are_flat.Goals as goal

pub returns : goal.returns
returns c = reports_are_flat
