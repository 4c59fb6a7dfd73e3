use Rattle.std.proofs.Common.{◌<◌, ◌∙◌, length, sym, ap, arith}
use Rattle.glades.specs.Links.{Notes, noted}
use Rattle.glades.proofs.Noting.{all_next, noted_length}
use Rattle.glades.proofs.links.note_all.Goals as goal

pub loop-at-preserved : goal.loop-at-preserved
loop-at-preserved c =
    let end = c.len-at-end.ensures in
    let below = c.loop-at-test.true in
    let lt : c.loop-at.at < length c.args.alternatives.now = omega (arith, end, below) in
    record {
      same = c.note.ensures ∙ (λ i. noted (c.cause.ensures i) (c.loop-at.invariant.same i)) ∙ sym (all_next c.args.alternatives.now c.loop-at.at c.args.notes.now.items lt);
      long = ap (λ (s : Notes). length s) c.note.ensures ∙ noted_length _ _ c.loop-at.notes.items ∙ c.loop-at.invariant.long;
    }
