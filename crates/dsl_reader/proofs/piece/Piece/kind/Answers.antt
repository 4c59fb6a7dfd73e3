use Rattle.std.proofs.Common.{sym, ap}
use Rattle.dsl_reader.proofs.TokenLemmas.{here_is, past_is}
use Rattle.dsl_reader.specs.Pieces.{first_kind}
use Rattle.dsl_reader.proofs.piece.Piece.kind.Goals as goal

pub returns-then-i-self : goal.returns-then-i-self
returns-then-i-self c = sym (ap (first_kind) (here_is _ _ _ _ _ c.self.view_is c.if-i-self.true))

pub returns-else-i-self : goal.returns-else-i-self
returns-else-i-self c = sym (ap (first_kind) (past_is _ _ _ _ c.self.view_is c.if-i-self.false))
