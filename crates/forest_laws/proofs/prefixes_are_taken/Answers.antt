use Rattle.forest_laws.proofs.Taken.{prefixes_are_taken}
use Rattle.forest_laws.proofs.prefixes_are_taken.Goals as goal

pub returns : goal.returns
returns c = prefixes_are_taken
