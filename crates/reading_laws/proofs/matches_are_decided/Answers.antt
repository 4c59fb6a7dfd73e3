use Rattle.reading_laws.proofs.Matching.{matches_are_decided}
use Rattle.reading_laws.proofs.matches_are_decided.Goals as goal

pub returns : goal.returns
returns c = matches_are_decided
