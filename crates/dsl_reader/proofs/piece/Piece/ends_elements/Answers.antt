use Rattle.std.proofs.Common.{◌∙◌, ◌<◌, length, arith}
use Rattle.dsl_reader.proofs.ReadingLemmas.{begins_ends}
use Rattle.dsl_reader.proofs.piece.Piece.ends_elements.Goals as goal

pub returns-else-i-len-clause-ends : goal.returns-else-i-len-clause-ends
returns-else-i-len-clause-ends c =
    let inside : c.args.i < length c.args.self.now = omega arith in
    c.begins_adverb.ensures ∙ begins_ends c.args.self.now c.args.i inside
