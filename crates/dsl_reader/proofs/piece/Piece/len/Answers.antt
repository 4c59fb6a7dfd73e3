use Rattle.dsl_reader.proofs.TokenLemmas.{len_is}
use Rattle.dsl_reader.proofs.piece.Piece.len.Goals as goal

pub returns : goal.returns
returns c = len_is _ _ _ c.self.view_is
