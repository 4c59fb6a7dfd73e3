use Rattle.std.proofs.Common.{◌↔◌, subst, List, ℕ, Contains}
use Rattle.std.specs.Prelude.{IsTrue}
use Rattle.threads.proofs.terminals.Terminals.has.Goals as goal

pub has_ordered-requires : goal.has_ordered-requires
has_ordered-requires c = c.self.invariant c.if-self.true

pub returns-then-self : goal.returns-then-self
returns-then-self c = subst (λ (l : List ℕ). IsTrue c.has_ordered.result ↔ Contains l c.args.t) c.self.view_is c.has_ordered.ensures

pub returns-else-self : goal.returns-else-self
returns-else-self c = subst (λ (l : List ℕ). IsTrue c.has_any.result ↔ Contains l c.args.t) c.self.view_is c.has_any.ensures
