use Rattle.std.proofs.Common.{◌∙◌, sym, ap}
use Rattle.dsl_reader.proofs.TokenLemmas.{here_is, past_is}
use Rattle.dsl_reader.specs.Pieces.{first_is, is_pseudo_of}
use Rattle.std.proofs.lemmas.Bool.{le-ltb}
use Rattle.dsl_reader.proofs.piece.Piece.is_pseudo_of.Goals as goal

pub returns-then-i-self : goal.returns-then-i-self
returns-then-i-self c = c.is_pseudo_token.ensures ∙ sym (ap (first_is (is_pseudo_of c.args.content.now)) (here_is _ _ _ _ _ c.self.view_is c.if-i-self.true))

pub returns-else-i-self : goal.returns-else-i-self
returns-else-i-self c = le-ltb _ _ c.if-i-self.false ∙ sym (ap (first_is (is_pseudo_of c.args.content.now)) (past_is _ _ _ _ c.self.view_is c.if-i-self.false))
