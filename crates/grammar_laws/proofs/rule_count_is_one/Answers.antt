use Rattle.grammar_laws.proofs.Flats.{rule_count_is_one}
use Rattle.grammar_laws.proofs.rule_count_is_one.Goals as goal

pub returns : goal.returns
returns c = rule_count_is_one
