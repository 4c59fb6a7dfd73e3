use Rattle.forest_laws.proofs.Walked.{forests_are_walked}
use Rattle.forest_laws.proofs.forests_are_walked.Goals as goal

pub returns : goal.returns
returns c = forests_are_walked
