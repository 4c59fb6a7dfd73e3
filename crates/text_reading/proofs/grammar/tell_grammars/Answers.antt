use Rattle.std.proofs.Common.{refl}
use Rattle.text_reading.proofs.grammar.tell_grammars.Goals as goal

pub returns-in-Ok : goal.returns-in-Ok
returns-in-Ok c = λ b refused. (c.in-Ok.ensures b refused, refl)
