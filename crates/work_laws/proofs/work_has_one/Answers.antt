use Rattle.work_laws.proofs.Working.{work_has_one}
use Rattle.work_laws.proofs.work_has_one.Goals as goal

pub returns : goal.returns
returns c = work_has_one
