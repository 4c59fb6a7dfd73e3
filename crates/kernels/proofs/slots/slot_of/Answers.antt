use Rattle.std.proofs.Common.{arith}
use Rattle.kernels.proofs.Numbers.{found_slot, no_slot}
use Rattle.kernels.proofs.Slotting.{slot_small}
use Rattle.kernels.proofs.slots.slot_of.Goals as goal

pub overflow_cast-result : goal.overflow_cast-result
overflow_cast-result c = let lt = slot_small c.args.origins.now c.requires c.in-Ok.slot c.in-Ok.ensures.bound in omega arith

pub returns-in-Ok-clause-some : goal.returns-in-Ok-clause-some
returns-in-Ok-clause-some c = found_slot c.args.origins.now c.requires.rise c.args.origin c.in-Ok.slot c.binary_search.result c.binary_search.ensures.position c.in-Ok.is

pub returns-in-Err-clause-none : goal.returns-in-Err-clause-none
returns-in-Err-clause-none c e = no_slot c.args.origins.now c.requires.rise c.args.origin c.in-Err.field-0 c.binary_search.result c.binary_search.ensures.position c.in-Err.is
