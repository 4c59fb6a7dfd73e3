use Rattle.std.proofs.Common.{arith, sym, subst, Contains}
use Rattle.horn_clauses.proofs.Marks.{unmarked}
use Rattle.horn_clauses.proofs.number_set.NumberSet.has.Goals as goal

pub returns-else-place-len : goal.returns-else-place-len
returns-else-place-len c = (
  λ t. absurd (grind (arith, t, c.if-place-len.false)),
  λ h. absurd (unmarked c.self.inside.marks.items c.self.inside.order.items c.args.x c.self.invariant (omega (arith, c.if-place-len.false, c.len.ensures)) (subst (λ l. Contains l c.args.x) (sym c.self.view_is) h)),
)
