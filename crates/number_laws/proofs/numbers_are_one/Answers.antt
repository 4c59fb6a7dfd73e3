use Rattle.number_laws.proofs.One.{numbers_are_one}
use Rattle.number_laws.proofs.numbers_are_one.Goals as goal

pub returns : goal.returns
returns c = numbers_are_one
