use Rattle.renaming_laws.proofs.Alike.{numbers_of_any_form}
use Rattle.renaming_laws.proofs.numbers_of_any_form.Goals as goal

pub returns : goal.returns
returns c = numbers_of_any_form
