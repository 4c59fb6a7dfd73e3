use Rattle.std.proofs.Common.{◌≡◌, ◌++◌, drop, string_bytes}
use Rattle.tree_text.specs.Telling.{texts_from, texts_below}
use Rattle.tree_text.proofs.telling.push_texts.Given as goal

abbrev pub invariant-loop-node : goal.invariant-loop-node
invariant-loop-node l = string_bytes l.out ++ texts_from l.at l.part (drop l.node-index l.below) ≡ string_bytes l.fn.out ++ texts_below l.depth l.nodes l.at
