use Rattle.forest_laws.proofs.Existing.{forests_exist}
use Rattle.forest_laws.proofs.forests_exist.Goals as goal

pub returns : goal.returns
returns c = forests_exist
