use Rattle.std.proofs.Common.{arith}
use Rattle.tree_text.proofs.Differences.{faces_told}
use Rattle.tree_text.proofs.difference.is_in_both.Goals as goal

pub returns : goal.returns
returns c = faces_told _ _ _ _ _ _ (omega arith) (omega arith) c.has_same_face.ensures
