use Rattle.grammar_laws.proofs.Applied.{laws_apply}
use Rattle.grammar_laws.proofs.laws_apply.Goals as goal

pub returns : goal.returns
returns c = laws_apply
