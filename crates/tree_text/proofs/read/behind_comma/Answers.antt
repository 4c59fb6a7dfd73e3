use Rattle.std.proofs.Common.{arith}
use Rattle.tree_text.proofs.Words.{found_after}
use Rattle.tree_text.proofs.read.behind_comma.Goals as goal

pub returns-then-depth-gt0 : goal.returns-then-depth-gt0
returns-then-depth-gt0 c = found_after c.if-depth-gt0.true _ 44 c.behind.result (omega arith) c.behind.ensures
