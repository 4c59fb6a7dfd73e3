use Rattle.std.proofs.Common.{List, Contains, subst}
use Rattle.finite_sets.proofs.Lists.{Contains-map}
use Rattle.forest_parts.specs.Given.{GivenAt, given_at}
use Rattle.forest_parts.proofs.given.Given.push.Goals as goal

pub put_row-requires-clause-falls : goal.put_row-requires-clause-falls
put_row-requires-clause-falls c row h =
    c.requires (given_at c.self.inside.tops.items c.self.inside.items.items row) (subst (λ (l : List GivenAt). Contains l (given_at c.self.inside.tops.items c.self.inside.items.items row)) c.self.view_is (Contains-map (given_at c.self.inside.tops.items c.self.inside.items.items) c.self.inside.rows.items row h))
