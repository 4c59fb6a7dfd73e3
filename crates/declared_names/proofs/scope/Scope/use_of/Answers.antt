use Rattle.std.proofs.Common.{refl, subst}
use Rattle.std.specs.Prelude.{None, Some}
use Rattle.declared_names.specs.Scope.{IsFound}
use Rattle.declared_names.proofs.scope.Scope.use_of.Goals as goal

pub returns-in-Some : goal.returns-in-Some
returns-in-Some c = (refl, (c.in-Some.field-0, subst (λ n. IsFound c.args.self.now n (Some c.in-Some.field-0)) c.deref.ensures c.in-Some.ensures))

pub returns-in-None : goal.returns-in-None
returns-in-None c = (refl, refl, subst (λ n. IsFound c.args.self.now n None) c.deref.ensures c.in-None.ensures)
