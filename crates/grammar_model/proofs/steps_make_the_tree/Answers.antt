use Rattle.grammar_model.proofs.Steps.{steps_make}
use Rattle.grammar_model.proofs.steps_make_the_tree.Goals as goal

pub returns : goal.returns
returns c = λ stack t. steps_make t stack
