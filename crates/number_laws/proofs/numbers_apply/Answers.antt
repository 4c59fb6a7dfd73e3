use Rattle.number_laws.proofs.Applied.{numbers_apply}
use Rattle.number_laws.proofs.numbers_apply.Goals as goal

pub returns : goal.returns
returns c = numbers_apply
