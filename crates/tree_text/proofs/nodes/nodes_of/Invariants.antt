use Rattle.tree_text.specs.Nested.{IsGrowing}
use Rattle.tree_text.proofs.nodes.nodes_of.Given as goal

abbrev pub invariant-loop-k : goal.invariant-loop-k
invariant-loop-k l = IsGrowing l.growing
