use Rattle.std.proofs.Common.{◌≡◌, ◌++◌, drop, string_bytes}
use Rattle.tree_text.specs.Written.{lines_from, lines_of}
use Rattle.tree_text.proofs.indent.push_indented.Given as goal

abbrev pub invariant-loop-node : goal.invariant-loop-node
invariant-loop-node l = string_bytes l.out ++ lines_from l.ended.items (drop l.node-index l.nodes) ≡ string_bytes l.fn.out ++ lines_of l.nodes
