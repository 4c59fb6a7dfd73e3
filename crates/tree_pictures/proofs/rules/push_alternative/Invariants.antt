use Rattle.std.proofs.Common.{◌≡◌, ◌++◌, take, string_bytes}
use Rattle.std.specs.List.{flat_map}
use Rattle.tree_pictures.specs.Rules.{part_piece}
use Rattle.tree_pictures.proofs.rules.push_alternative.Given as goal

abbrev pub invariant-loop-node : goal.invariant-loop-node
invariant-loop-node l = string_bytes l.out ≡ string_bytes l.fn.out ++ flat_map part_piece (take l.node-index l.parts)
