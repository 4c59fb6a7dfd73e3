use Rattle.std.proofs.Common.{◌≡◌, ℕ, List, Option, Some, slice_get, subst}
use Rattle.forest_parts.proofs.Lowest.{lowered}
use Rattle.forest_parts.proofs.counts.lower.Goals as goal

pub returns-clause-least : goal.returns-clause-least
returns-clause-least c keys are =
    lowered keys c.args.key c.args.least.now.items c.set_origin.new.least.items c.origin_at.result c.lowest-low.result are
    (subst (λ (l : List (Option ℕ)). slice_get l c.args.key.end ≡ Some c.origin_at.result) c.deref.ensures.value c.origin_at.ensures) c.lowest-low.ensures c.set_origin.ensures.other c.set_origin.ensures.set
