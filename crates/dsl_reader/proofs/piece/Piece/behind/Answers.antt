use Rattle.std.proofs.Common.{◌∙◌, sym, length, arith}
use Rattle.dsl_reader.proofs.TokenLemmas.{past_is, behind_is}
use Rattle.dsl_reader.proofs.piece.Piece.behind.Goals as goal

pub returns-then-count-self : goal.returns-then-count-self
returns-then-count-self c = c.piece_of.ensures ∙ behind_is _ _ _ _ c.self.view_is

pub returns-else-count-self : goal.returns-else-count-self
returns-else-count-self c =
    let past = past_is _ _ _ _ c.self.view_is c.if-count-self.false in
    let none = past_is _ _ _ (length c.self.inside.tokens.now) c.self.view_is (omega arith) in
    c.piece_of-else-count-self.ensures ∙ behind_is _ _ _ _ c.self.view_is ∙ none ∙ sym past
