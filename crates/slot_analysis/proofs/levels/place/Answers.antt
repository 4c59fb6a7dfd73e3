use Rattle.std.proofs.Common.{arith}
use Rattle.slot_analysis.proofs.Counting.{found_ok, found_err}
use Rattle.slot_analysis.proofs.levels.place.Goals as goal

pub overflow_cast-result : goal.overflow_cast-result
overflow_cast-result c = let h = found_ok c.args.levels.now c.requires c.args.level c.binary_search.result c.in-Ok.k c.binary_search.ensures.position c.in-Ok.is in omega (arith, h.1)

pub overflow_cast-result-in-Err : goal.overflow_cast-result-in-Err
overflow_cast-result-in-Err c = let h = found_err c.args.levels.now c.requires c.args.level c.binary_search.result c.in-Err.k c.binary_search.ensures.position c.in-Err.is in omega (arith, h.1)

pub returns-in-Ok : goal.returns-in-Ok
returns-in-Ok c = (found_ok c.args.levels.now c.requires c.args.level c.binary_search.result c.in-Ok.k c.binary_search.ensures.position c.in-Ok.is).0

pub returns-in-Err : goal.returns-in-Err
returns-in-Err c = (found_err c.args.levels.now c.requires c.args.level c.binary_search.result c.in-Err.k c.binary_search.ensures.position c.in-Err.is).0
