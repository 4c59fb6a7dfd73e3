use Rattle.std.proofs.Common.{arith}
use Rattle.tree_text.proofs.Words.{found_after}
use Rattle.tree_text.proofs.read.behind_end.Goals as goal

pub returns-then-can_end : goal.returns-then-can_end
returns-then-can_end c = found_after c.if-can_end.ensures _ 93 c.behind.result (omega arith) c.behind.ensures
