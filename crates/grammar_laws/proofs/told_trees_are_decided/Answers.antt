use Rattle.grammar_laws.proofs.Spans.{told_trees_are_decided}
use Rattle.grammar_laws.proofs.told_trees_are_decided.Goals as goal

pub returns : goal.returns
returns c = told_trees_are_decided
