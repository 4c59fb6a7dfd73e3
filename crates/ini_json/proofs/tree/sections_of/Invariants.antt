use Rattle.std.proofs.Common.{◌≡◌, ◌++◌, map}
use Rattle.std.specs.Vec.Iter.{into_iter_items}
use Rattle.ini_json.specs.Settings.{groups_among}
use Rattle.ini_json.specs.Nodes.{part_of, group_of}
use Rattle.ini_json.proofs.tree.sections_of.Given as goal

abbrev pub invariant-loop-child : goal.invariant-loop-child
invariant-loop-child l = map group_of l.sections.items ++ groups_among (map part_of (into_iter_items l.child-iterator)) ≡ groups_among (map part_of l.fn.children.items)
