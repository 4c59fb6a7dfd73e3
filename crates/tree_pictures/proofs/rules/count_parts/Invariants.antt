use Rattle.std.proofs.Common.{◌≡◌, ◌+◌, ◌-◌, ◌≤◌, drop, length}
use Rattle.std.specs.List.{prefix_len}
use Rattle.tree_pictures.specs.Rules.{is_in_parts}
use Rattle.tree_pictures.proofs.rules.count_parts.Given as goal

abbrev pub invariant-loop-count : goal.invariant-loop-count
invariant-loop-count l = (l.count ≤ length l.nodes) × (l.count + prefix_len (is_in_parts l.depth) (drop l.count l.nodes) ≡ prefix_len (is_in_parts l.depth) l.nodes)

abbrev pub decreases-loop-count : goal.decreases-loop-count
decreases-loop-count l = length l.nodes - l.count
