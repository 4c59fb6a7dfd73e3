use Rattle.report_laws.proofs.Existing.{reports_apply}
use Rattle.report_laws.proofs.reports_apply.Goals as goal

pub returns : goal.returns
returns c = reports_apply
