use Rattle.grammar_laws.proofs.Flats.{named_rules_are_all}
use Rattle.grammar_laws.proofs.named_rules_are_all.Goals as goal

pub returns : goal.returns
returns c = named_rules_are_all
