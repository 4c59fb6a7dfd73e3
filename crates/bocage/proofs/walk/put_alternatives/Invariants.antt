use Rattle.std.proofs.Common.{take}
use Rattle.bocage.specs.Walk.{Lists, BeginsIn}
use Rattle.bocage.proofs.walk.put_alternatives.Given as goal

abbrev pub invariant-loop-join : goal.invariant-loop-join
invariant-loop-join l = Lists l.known l.predecessor l.symbol (BeginsIn l.known (take l.join-index l.joins)) l.initial.found l.found
