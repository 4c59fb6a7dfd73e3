use Rattle.recognizer_model.proofs.Leaving.{leaves_some}
use Rattle.recognizer_model.proofs.allowed_leave_some.Goals as goal

pub returns : goal.returns
returns c = λ f w edges ranking flat forward. leaves_some f w flat edges forward ranking
