use Rattle.std.proofs.Common.{subst}
use Rattle.forest_parts.specs.Hidden.{IsHiddenFrom}
use Rattle.forest_parts.specs.Counts.{IsLeast, IsHiddenAt}
use Rattle.forest_parts.proofs.Counting.{rises_by_of, rises_none_by}
use Rattle.forest_parts.proofs.Lowest.{hidden_here, none_here}
use Rattle.forest_parts.proofs.counts.count_at.Goals as goal

pub returns-in_ok-hidden : goal.returns-in_ok-hidden
returns-in_ok-hidden g c keys is =
    rises_by_of (IsHiddenFrom c.args.recce.now c.args.end c.in-Some.from) (IsHiddenAt c.args.recce.now keys c.args.end) c.args.expanded.now c.list_hidden.new.expanded
    (hidden_here c.args.recce.now keys c.args.end c.in-Some.from (subst (IsLeast keys c.args.end) c.in-Some.is is)) c.in_ok-hidden.ensures.expanded

pub returns-in_default : goal.returns-in_default
returns-in_default g c keys is =
    rises_none_by (IsHiddenAt c.args.recce.now keys c.args.end) c.args.expanded.now (none_here c.args.recce.now keys c.args.end (subst (IsLeast keys c.args.end) c.in_default.is is))
