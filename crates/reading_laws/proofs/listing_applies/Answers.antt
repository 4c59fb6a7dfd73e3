use Rattle.reading_laws.proofs.ListsApplied.{listing_applies}
use Rattle.reading_laws.proofs.listing_applies.Goals as goal

pub returns : goal.returns
returns c = listing_applies
