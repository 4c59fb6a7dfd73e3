use Rattle.glade_groups.proofs.Noting.{marks_step}
use Rattle.glade_groups.proofs.marks.marks_of.Goals as goal

pub loop-at-preserved : goal.loop-at-preserved
loop-at-preserved c =
    let xs = c.args.glades.now in
    let step = marks_step xs c.loop-at.at c.index-glades-at.result c.loop-at.marks.items c.push.new.self.items c.mark_of.result c.loop-at-test.true c.index-glades-at.is c.loop-at.invariant.long
    (λ got. c.mark_of.ensures xs c.in_ok-notes.ensures got) c.in_ok-push.ensures.items c.loop-at.invariant.each in
    record { long = step.0; each = step.1 }
