use Rattle.glade_laws.proofs.Existing.{reports_exist}
use Rattle.glade_laws.proofs.reports_exist.Goals as goal

pub returns : goal.returns
returns c = reports_exist
