use Rattle.script_laws.proofs.One.{answers_are_one}
use Rattle.script_laws.proofs.answers_are_one.Goals as goal

pub returns : goal.returns
returns c = answers_are_one
