use Rattle.std.proofs.Common.{◌≡◌, ◌++◌, take, string_bytes}
use Rattle.std.specs.List.{flat_map}
use Rattle.tree_text.specs.Written.{rail}
use Rattle.tree_text.proofs.indent.push_each_rail.Given as goal

abbrev pub invariant-loop-last : goal.invariant-loop-last
invariant-loop-last l = string_bytes l.out ≡ string_bytes l.fn.out ++ flat_map rail (take l.last-index l.ended)
