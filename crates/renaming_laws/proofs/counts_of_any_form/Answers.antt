use Rattle.renaming_laws.proofs.Alike.{counts_of_any_form}
use Rattle.renaming_laws.proofs.counts_of_any_form.Goals as goal

pub returns : goal.returns
returns c = counts_of_any_form
