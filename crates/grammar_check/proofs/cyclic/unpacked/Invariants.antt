use Rattle.std.proofs.Common.{◌≡◌, map, take}
use Rattle.grammar_check.specs.Told.{unpacked_pair}
use Rattle.grammar_check.proofs.cyclic.unpacked.Given as goal

abbrev pub invariant-loop-slot : goal.invariant-loop-slot
invariant-loop-slot l = l.slots.items ≡ map (unpacked_pair l.rows) (take l.slot-index l.cycle)
