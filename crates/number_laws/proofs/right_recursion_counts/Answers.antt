use Rattle.number_laws.proofs.RightRecursion.{right_recursion_counts}
use Rattle.number_laws.proofs.right_recursion_counts.Goals as goal

pub returns : goal.returns
returns c = right_recursion_counts
