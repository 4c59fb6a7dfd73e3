use Rattle.grammar_laws.proofs.Acceptance.{told_acceptable_are_decided}
use Rattle.grammar_laws.proofs.told_acceptable_are_decided.Goals as goal

pub returns : goal.returns
returns c = told_acceptable_are_decided
