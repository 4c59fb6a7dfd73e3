use Rattle.std.proofs.Common.{◌≡◌, ◌++◌, drop, string_bytes, false}
use Rattle.tree_text.specs.Telling.{counts}
use Rattle.tree_text.proofs.telling.push_counts.Given as goal

abbrev pub invariant-loop-node : goal.invariant-loop-node
invariant-loop-node l = string_bytes l.out ++ counts l.follows l.at (drop l.node-index l.nodes) ≡ string_bytes l.fn.out ++ counts false l.at l.nodes
