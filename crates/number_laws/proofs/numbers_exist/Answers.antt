use Rattle.number_laws.proofs.Exist.{numbers_exist}
use Rattle.number_laws.proofs.numbers_exist.Goals as goal

pub returns : goal.returns
returns c = numbers_exist
