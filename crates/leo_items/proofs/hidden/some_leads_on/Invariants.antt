use Rattle.std.proofs.Common.{take}
use Rattle.leo_items.specs.Hidden.{NoneLeadsOn}
use Rattle.leo_items.proofs.hidden.some_leads_on.Given as goal

abbrev pub invariant-loop-k : goal.invariant-loop-k
invariant-loop-k l = NoneLeadsOn l.flat l.rows.sets l.earleme l.from (take l.k l.items)
