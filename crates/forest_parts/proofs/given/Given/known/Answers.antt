use Rattle.std.proofs.Common.{subst}
use Rattle.forest_parts.specs.Given.{AreFalling}
use Rattle.forest_parts.proofs.Rows.{told_falling}
use Rattle.forest_parts.proofs.given.Given.known.Goals as goal

pub returns : goal.returns
returns c = subst AreFalling c.self.view_is (told_falling c.self.inside.rows.items c.self.invariant.falls c.self.inside.tops.items c.self.inside.items.items)
