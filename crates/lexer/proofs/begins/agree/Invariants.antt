use Rattle.std.proofs.Common.{◌↔◌}
use Rattle.std.specs.Prelude.{IsTrue}
use Rattle.lexer.proofs.Agreeing.{Agree}
use Rattle.lexer.proofs.begins.agree.Given as goal

abbrev pub invariant-loop-k : goal.invariant-loop-k
invariant-loop-k l = IsTrue l.same ↔ Agree l.list l.starts l.k
