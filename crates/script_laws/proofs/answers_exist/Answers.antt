use Rattle.script_laws.proofs.Exist.{answers_exist}
use Rattle.script_laws.proofs.answers_exist.Goals as goal

pub returns : goal.returns
returns c = answers_exist
