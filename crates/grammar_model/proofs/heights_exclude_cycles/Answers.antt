use Rattle.grammar_model.proofs.Cycles.{no_cycle}
use Rattle.grammar_model.proofs.heights_exclude_cycles.Goals as goal

pub returns : goal.returns
returns c = no_cycle
