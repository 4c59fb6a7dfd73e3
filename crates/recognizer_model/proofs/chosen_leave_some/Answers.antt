use Rattle.recognizer_model.proofs.FlatChosen.{chosen_some}
use Rattle.recognizer_model.proofs.chosen_leave_some.Goals as goal

pub returns : goal.returns
returns c = λ f w edges ranking r x slot p q chosen all lt st are every. chosen_some f w edges ranking r x slot p q chosen all lt st are every
