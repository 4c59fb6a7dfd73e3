use Rattle.glade_laws.proofs.Existing.{used_have_lists}
use Rattle.glade_laws.proofs.used_have_lists.Goals as goal

pub returns : goal.returns
returns c = used_have_lists
