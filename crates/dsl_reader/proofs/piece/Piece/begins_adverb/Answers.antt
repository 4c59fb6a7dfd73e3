use Rattle.dsl_reader.proofs.ReadingLemmas.{arrow_begins}
use Rattle.dsl_reader.proofs.piece.Piece.begins_adverb.Goals as goal

pub returns-then-i-len : goal.returns-then-i-len
returns-then-i-len c = arrow_begins c.args.self.now c.args.i c.is_mark.result c.is_mark-then-i-len.result c.is_mark.ensures c.if-is_mark.false c.is_mark-then-i-len.ensures
