use Rattle.dsl_tokens.proofs.ExistLemmas.{one_bad_place}
use Rattle.dsl_tokens.proofs.laws.bad_place_is_one.Goals as goal

pub returns : goal.returns
returns c = one_bad_place
