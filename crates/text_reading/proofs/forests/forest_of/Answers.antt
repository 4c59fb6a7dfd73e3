use Rattle.std.proofs.Common.{List, Contains, subst, ap, arith}
use Rattle.finite_sets.proofs.Lists.{Contains-none}
use Rattle.forest_parts.specs.Given.{GivenAt, items_in}
use Rattle.text_reading.proofs.forests.forest_of.Goals as goal

pub forest_after-requires-clause-before : goal.forest_after-requires-clause-before
forest_after-requires-clause-before g c e among = absurd (Contains-none e (subst (λ (l : List GivenAt). Contains l e) c.new-before.ensures among))

pub returns-clause-counted : goal.returns-clause-counted
returns-clause-counted g c = c.forest_after.ensures.counted c.args.steps.now (let e = ap items_in c.new-before.ensures in omega (arith, e))
