use Rattle.std.proofs.Common.{inl, inr, Contains, slice_index, subst, sym}
use Rattle.horn_clauses.proofs.Search.{same_or_below}
use Rattle.horn_clauses.proofs.least.open_place.Goals as goal

pub loop-place-preserved : goal.loop-place-preserved
loop-place-preserved c = λ m le lt. elim (same_or_below m c.loop-place.place lt) [
  | inl below ↦ c.loop-place.invariant m le below
  | inr same ↦ subst (λ n. Contains c.args.found.now (slice_index c.args.body.now n)) (sym same) (c.has.ensures.0 c.if-not-has.false)
]
