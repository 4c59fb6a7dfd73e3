use Rattle.outcome_laws.proofs.Figures.{steps_have_figures}
use Rattle.outcome_laws.proofs.steps_have_figures.Goals as goal

pub returns : goal.returns
returns c = steps_have_figures
