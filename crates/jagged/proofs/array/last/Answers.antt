use Rattle.jagged.proofs.Cutting.{last_index}
use Rattle.jagged.proofs.array.last.Goals as goal

pub returns-else-count-eq0 : goal.returns-else-count-eq0
returns-else-count-eq0 c = last_index 0 c.args.ends.now (λ e. (c.if-count-eq0.false e))
