use Rattle.grammar_laws.proofs.Reduced.{reduced_sets_agree}
use Rattle.grammar_laws.proofs.reduced_sets_agree.Goals as goal

pub returns : goal.returns
returns c = reduced_sets_agree
