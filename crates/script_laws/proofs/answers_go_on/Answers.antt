use Rattle.script_laws.proofs.Exist.{answers_go_on}
use Rattle.script_laws.proofs.answers_go_on.Goals as goal

pub returns : goal.returns
returns c = answers_go_on
