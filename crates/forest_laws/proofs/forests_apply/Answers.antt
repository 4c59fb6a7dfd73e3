use Rattle.forest_laws.proofs.Applied.{forests_apply}
use Rattle.forest_laws.proofs.forests_apply.Goals as goal

pub returns : goal.returns
returns c = forests_apply
