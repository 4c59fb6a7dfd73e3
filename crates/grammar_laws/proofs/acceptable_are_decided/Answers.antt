use Rattle.grammar_laws.proofs.Acceptance.{acceptable_are_decided}
use Rattle.grammar_laws.proofs.acceptable_are_decided.Goals as goal

pub returns : goal.returns
returns c = acceptable_are_decided
