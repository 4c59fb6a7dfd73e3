use Rattle.std.proofs.Common.{sym, subst, ℕ, List, length}
use Rattle.jagged.specs.Rows.{AreEnds}
use Rattle.jagged.proofs.Cutting.{first_ends}
use Rattle.jagged.proofs.array.Jagged.keep_first.Goals as goal

pub invariant_of-self : goal.invariant_of-self
invariant_of-self g c = subst (λ (l : List ℕ). AreEnds 0 l (length c.self.inside.items.items)) (sym c.truncate.ensures.items) (first_ends c.self.inside.items.items 0 c.self.inside.ends.items c.self.invariant)
