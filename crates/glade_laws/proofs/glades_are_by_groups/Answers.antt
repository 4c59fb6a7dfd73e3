use Rattle.glade_laws.proofs.Reported.{report_is}
use Rattle.glade_laws.proofs.glades_are_by_groups.Goals as goal

pub returns : goal.returns
returns c = λ f glades is rule by. report_is f is rule glades by
