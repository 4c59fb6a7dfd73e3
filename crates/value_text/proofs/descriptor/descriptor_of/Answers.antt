use Rattle.std.proofs.lemmas.Result.{IfOk-from_err}
use Rattle.value_text.proofs.descriptor.descriptor_of.Goals as goal

pub returns-in_err-items : goal.returns-in_err-items
returns-in_err-items c = IfOk-from_err _ _ c.from_residual.ensures.0
