use Rattle.reading_laws.proofs.Accepted.{grammar_fault_is_one}
use Rattle.reading_laws.proofs.grammar_fault_is_one.Goals as goal

pub returns : goal.returns
returns c = grammar_fault_is_one
