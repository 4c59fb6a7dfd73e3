use Rattle.number_laws.proofs.RightRecursion.{right_recursion_row}
use Rattle.number_laws.proofs.right_recursion_row.Goals as goal

pub returns : goal.returns
returns c = right_recursion_row
