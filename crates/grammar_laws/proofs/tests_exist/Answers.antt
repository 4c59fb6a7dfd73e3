use Rattle.grammar_laws.proofs.Tests.{tests_exist}
use Rattle.grammar_laws.proofs.tests_exist.Goals as goal

pub returns : goal.returns
returns c = tests_exist
