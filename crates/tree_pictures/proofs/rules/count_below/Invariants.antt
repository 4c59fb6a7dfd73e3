use Rattle.std.proofs.Common.{◌≡◌, ◌+◌, ◌-◌, ◌≤◌, drop, length}
use Rattle.std.specs.List.{prefix_len}
use Rattle.tree_text.specs.Telling.{is_deeper}
use Rattle.tree_pictures.proofs.rules.count_below.Given as goal

abbrev pub invariant-loop-count : goal.invariant-loop-count
invariant-loop-count l = (l.count ≤ length l.nodes) × (l.count + prefix_len (is_deeper l.depth) (drop l.count l.nodes) ≡ prefix_len (is_deeper l.depth) l.nodes)

abbrev pub decreases-loop-count : goal.decreases-loop-count
decreases-loop-count l = length l.nodes - l.count
