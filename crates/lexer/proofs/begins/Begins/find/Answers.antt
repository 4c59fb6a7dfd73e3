use Rattle.std.proofs.Common.{subst}
use Rattle.lexer.specs.Machines.{HasBegin}
use Rattle.lexer.proofs.Noting.{Entries}
use Rattle.lexer.proofs.begins.Begins.find.Goals as goal

pub returns-in-Some : goal.returns-in-Some
returns-in-Some c = subst (λ (es : Entries). HasBegin es c.args.starts.now c.in-Some.state) c.self.view_is c.in-Some.ensures
