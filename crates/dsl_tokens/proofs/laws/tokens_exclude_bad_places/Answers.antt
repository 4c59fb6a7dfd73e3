use Rattle.dsl_tokens.proofs.UniqueLemmas.{no_bad_place}
use Rattle.dsl_tokens.proofs.laws.tokens_exclude_bad_places.Goals as goal

pub returns : goal.returns
returns c = λ text ts at h bad. no_bad_place text 0 ts bad.before at h bad.lead bad.within bad.none
