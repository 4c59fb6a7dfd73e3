use Rattle.forest_laws.proofs.Exact.{forests_have_lists}
use Rattle.forest_laws.proofs.forests_have_lists.Goals as goal

pub returns : goal.returns
returns c = forests_have_lists
