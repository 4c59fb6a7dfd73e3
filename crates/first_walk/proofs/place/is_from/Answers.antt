use Rattle.std.proofs.Common.{arith}
use Rattle.std.proofs.lemmas.Bool.{ltb-true}
use Rattle.first_walk.proofs.Orders.{from_at}
use Rattle.first_walk.proofs.place.is_from.Goals as goal

pub returns-then-from-eq0 : goal.returns-then-from-eq0
returns-then-from-eq0 c _ = from_at c.args.parts.now c.requires.sorted c.requires.ends c.args.symbol c.args.from (omega arith) (omega arith) (λ some. absurd (omega arith))

pub returns-else-from-eq0 : goal.returns-else-from-eq0
returns-else-from-eq0 c t = from_at c.args.parts.now c.requires.sorted c.requires.ends c.args.symbol c.args.from (omega arith) (omega arith) (λ some. ltb-true _ _ t)
