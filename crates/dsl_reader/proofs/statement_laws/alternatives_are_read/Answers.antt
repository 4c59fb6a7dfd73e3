use Rattle.dsl_reader.proofs.AlternativeLemmas.{alternative_takes, alternative_again}
use Rattle.dsl_reader.proofs.statement_laws.alternatives_are_read.Goals as goal

pub returns : goal.returns
returns c = λ a tokens. (alternative_takes tokens a, λ h. alternative_again a.elements a.adverbs tokens h.0 h.1 h.2)
