use Rattle.forest_laws.proofs.Guide.{choices_per_step}
use Rattle.forest_laws.proofs.choices_per_step.Goals as goal

pub returns : goal.returns
returns c = choices_per_step
