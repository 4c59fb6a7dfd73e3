use Rattle.std.proofs.Common.{refl}
use Rattle.prepared_grammars.proofs.Faults.{said}
use Rattle.prepared_grammars.proofs.parts.fault_of.Goals as goal

pub returns-in_default : goal.returns-in_default
returns-in_default c = λ g told of. (refl, said g c.args.refusal told of c.in_default.not-NoMemory)
