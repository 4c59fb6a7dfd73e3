use Rattle.grammar_laws.proofs.Checks.{checks_decide}
use Rattle.grammar_laws.proofs.checks_decide.Goals as goal

pub returns : goal.returns
returns c = checks_decide
