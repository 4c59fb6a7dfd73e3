use Rattle.std.proofs.Common.{◌≡◌, ◌++◌, drop, string_bytes, false}
use Rattle.tree_pictures.specs.Rules.{below_of, sequence_from}
use Rattle.tree_pictures.proofs.rules.push_sequence.Given as goal

abbrev pub invariant-loop-node : goal.invariant-loop-node
invariant-loop-node l =
    string_bytes l.out ++ sequence_from l.separates l.named (drop l.node-index l.below) ≡ string_bytes l.fn.out ++ sequence_from false false (below_of l.depth l.nodes)
