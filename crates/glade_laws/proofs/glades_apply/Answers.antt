use Rattle.glade_laws.proofs.Applied.{glades_apply}
use Rattle.glade_laws.proofs.glades_apply.Goals as goal

pub returns : goal.returns
returns c = glades_apply
