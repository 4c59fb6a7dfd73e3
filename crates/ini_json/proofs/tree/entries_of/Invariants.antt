use Rattle.std.proofs.Common.{◌≡◌, ◌++◌, map}
use Rattle.std.specs.Vec.Iter.{into_iter_items}
use Rattle.ini_json.specs.Settings.{settings_among}
use Rattle.ini_json.specs.Nodes.{part_of, setting_of}
use Rattle.ini_json.proofs.tree.entries_of.Given as goal

abbrev pub invariant-loop-child : goal.invariant-loop-child
invariant-loop-child l = map setting_of l.entries.items ++ settings_among (map part_of (into_iter_items l.child-iterator)) ≡ settings_among (map part_of l.fn.children.items)
