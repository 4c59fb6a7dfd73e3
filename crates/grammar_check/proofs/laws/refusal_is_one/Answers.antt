use Rattle.grammar_check.proofs.Uniqueness.{one_refusal}
use Rattle.grammar_check.proofs.laws.refusal_is_one.Goals as goal

pub returns : goal.returns
returns c = one_refusal
