use Rattle.grammar_laws.proofs.Reduced.{reduced_sets_apply}
use Rattle.grammar_laws.proofs.reduced_sets_apply.Goals as goal

pub returns : goal.returns
returns c = reduced_sets_apply
