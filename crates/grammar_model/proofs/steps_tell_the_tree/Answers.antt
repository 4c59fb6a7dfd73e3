use Rattle.grammar_model.proofs.Steps.{steps_tell}
use Rattle.grammar_model.proofs.steps_tell_the_tree.Goals as goal

pub returns : goal.returns
returns c = steps_tell
