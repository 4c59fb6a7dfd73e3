use Rattle.report_laws.proofs.One.{report_is_one}
use Rattle.report_laws.proofs.report_is_one.Goals as goal

pub returns : goal.returns
returns c = report_is_one
