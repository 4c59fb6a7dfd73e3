use Rattle.std.proofs.Common.{◌<◌, length, sym, ◌∙◌, arith}
use Rattle.dsl_reader.proofs.ReadingLemmas.{unlike_step}
use Rattle.dsl_reader.proofs.piece.Piece.mark_from.Goals as goal

pub loop-at-preserved : goal.loop-at-preserved
loop-at-preserved c =
    let inside : c.loop-at.at < length c.args.self.now = omega arith in
    let e = c.loop-at.invariant.1 in
    (omega arith, omega (arith, e, unlike_step _ _ _ inside (sym c.is_mark.ensures ∙ c.if-not-is_mark.true)))
