use Rattle.std.proofs.Common.{◌≡◌, ◌+◌, List, Contains, sym, subst, arith}
use Rattle.finite_sets.proofs.Lists.{Contains-none}
use Rattle.forest_parts.specs.Given.{GivenAt, items_in}
use Rattle.bocage.proofs.forest.Forest.build.Goals as goal

pub build_after-requires-clause-given : goal.build_after-requires-clause-given
build_after-requires-clause-given g c e h = absurd (Contains-none e (subst (λ (l : List GivenAt). Contains l e) c.new-given.ensures h))

pub returns-clause-counted : goal.returns-clause-counted
returns-clause-counted g c n all = c.build_after.ensures.counted c.args.steps.now n (subst (λ (l : List GivenAt). c.args.steps.now ≡ c.args.steps.now + items_in l) (sym c.new-given.ensures) (omega arith)) all

pub returns-clause-needed : goal.returns-clause-needed
returns-clause-needed g c n all = c.build_after.ensures.needed c.args.steps.now n (subst (λ (l : List GivenAt). c.args.steps.now ≡ c.args.steps.now + items_in l) (sym c.new-given.ensures) (omega arith)) all

pub returns-clause-given : goal.returns-clause-given
returns-clause-given g c = c.build_after.ensures.after c.args.steps.now (subst (λ (l : List GivenAt). c.args.steps.now ≡ c.args.steps.now + items_in l) (sym c.new-given.ensures) (omega arith))
