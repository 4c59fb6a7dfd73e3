use Rattle.std.proofs.Common.{refl}
use Rattle.grammar_check.proofs.shortest.cycle_within.Goals as goal

pub returns-in_default-clause-none : goal.returns-in_default-clause-none
returns-in_default-clause-none c = λ _ there. c.in_default.ensures.none refl there
