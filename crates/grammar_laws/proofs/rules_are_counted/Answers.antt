use Rattle.grammar_laws.proofs.Flats.{rules_are_counted}
use Rattle.grammar_laws.proofs.rules_are_counted.Goals as goal

pub returns : goal.returns
returns c = rules_are_counted
