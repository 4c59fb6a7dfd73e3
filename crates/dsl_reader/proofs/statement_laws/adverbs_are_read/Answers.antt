use Rattle.dsl_reader.proofs.AdverbLemmas.{adverbs_takes, adverbs_again}
use Rattle.dsl_reader.proofs.statement_laws.adverbs_are_read.Goals as goal

pub returns : goal.returns
returns c = λ adverbs tokens. (adverbs_takes tokens adverbs, λ h. adverbs_again adverbs tokens h.0 h.1)
