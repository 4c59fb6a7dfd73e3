use Rattle.grammar_laws.proofs.Spans.{trees_are_decided}
use Rattle.grammar_laws.proofs.trees_are_decided.Goals as goal

pub returns : goal.returns
returns c = trees_are_decided
