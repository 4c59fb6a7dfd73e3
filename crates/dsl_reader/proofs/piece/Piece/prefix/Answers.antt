use Rattle.std.proofs.Common.{◌∙◌, sym, arith}
use Rattle.dsl_reader.proofs.TokenLemmas.{len_is, prefix_is}
use Rattle.std.proofs.lemmas.List.{length-take-le}
use Rattle.dsl_reader.proofs.piece.Piece.prefix.Goals as goal

pub slice_bounds-piece_of-end : goal.slice_bounds-piece_of-end
slice_bounds-piece_of-end c = sym (length-take-le _ _ (omega (arith, len_is _ _ _ c.self.view_is)))

pub returns : goal.returns
returns c = c.piece_of.ensures ∙ prefix_is _ _ _ _ c.self.view_is
