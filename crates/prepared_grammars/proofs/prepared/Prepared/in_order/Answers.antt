use Rattle.std.proofs.Common.{subst}
use Rattle.prepared_grammars.specs.Prepared.{AreInOrder}
use Rattle.prepared_grammars.proofs.Ordered.{in_order}
use Rattle.prepared_grammars.proofs.prepared.Prepared.in_order.Goals as goal

pub returns : goal.returns
returns c = subst AreInOrder c.self.view_is (in_order c.self.inside.built c.self.invariant.built)
