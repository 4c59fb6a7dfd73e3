use Rattle.grammar_model.proofs.Values.{steps_tell_value}
use Rattle.grammar_model.proofs.steps_tell_the_value.Goals as goal

pub returns : goal.returns
returns c = λ show g meaning tokens values t. steps_tell_value show g meaning tokens t values
