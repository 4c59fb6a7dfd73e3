use Rattle.std.proofs.Common.{◌∙◌, sym, ap}
use Rattle.dsl_reader.proofs.TokenLemmas.{here_is, past_is}
use Rattle.dsl_reader.specs.Pieces.{first_of}
use Rattle.std.proofs.Common.{Some}
use Rattle.dsl_reader.proofs.piece.Piece.spelled.Goals as goal

pub returns-in_ok-spelled : goal.returns-in_ok-spelled
returns-in_ok-spelled c = ap Some c.in_ok-spelled.ensures ∙ sym (ap first_of (here_is _ _ _ _ _ c.self.view_is c.if-i-self.true))

pub returns-else-i-self : goal.returns-else-i-self
returns-else-i-self c = sym (ap first_of (past_is _ _ _ _ c.self.view_is c.if-i-self.false))
