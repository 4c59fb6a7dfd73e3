use Rattle.std.proofs.Common.{sym, subst, slice_set, true}
use Rattle.horn_clauses.specs.Marks.{AreMarks}
use Rattle.horn_clauses.proofs.Marks.{same_marks, mark_added}
use Rattle.horn_clauses.proofs.number_set.NumberSet.add.Goals as goal

pub invariant_of-self-2 : goal.invariant_of-self-2
invariant_of-self-2 c = subst (AreMarks (slice_set c.lengthen.new.marks.items c.args.x true)) (sym c.in_ok-push.ensures.items)
    (mark_added c.lengthen.new.marks.items c.self.inside.order.items c.args.x c.in_ok-lengthen.ensures.long (same_marks c.self.inside.marks.items c.lengthen.new.marks.items c.self.inside.order.items c.in_ok-lengthen.ensures.same c.self.invariant))
