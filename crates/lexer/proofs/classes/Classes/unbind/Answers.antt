use Rattle.std.proofs.Common.{subst}
use Rattle.lexer.specs.Terminals.{ClassRows, IsClassOf}
use Rattle.lexer.proofs.classes.Classes.unbind.Goals as goal

pub returns-clause-of : goal.returns-clause-of
returns-clause-of c = λ code k noted. subst (λ (r : ClassRows). IsClassOf r.sets c.self.inside.rows code k) c.self.view_is (c.self.invariant code k noted)
