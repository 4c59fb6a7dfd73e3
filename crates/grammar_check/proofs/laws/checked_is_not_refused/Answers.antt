use Rattle.grammar_check.proofs.Uniqueness.{not_refused}
use Rattle.grammar_check.proofs.laws.checked_is_not_refused.Goals as goal

pub returns : goal.returns
returns c = not_refused
