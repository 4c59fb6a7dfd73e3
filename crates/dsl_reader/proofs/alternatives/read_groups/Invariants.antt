use Rattle.std.proofs.Common.{◌≡◌, ◌≤◌, ◌+◌, ◌-◌, ◌++◌, length, drop, map, codes}
use Rattle.std.specs.Prelude.{option_map}
use Rattle.dsl_reader.specs.Forms.{between, all_read, group_of, groups_of}
use Rattle.dsl_reader.proofs.alternatives.read_groups.Given as goal

abbrev pub invariant-groups : goal.invariant-groups
invariant-groups l = record {
  within : l.at ≤ length l.piece;
  read : option_map (λ rest. map (λ g. g.items) l.groups.items ++ rest) (all_read group_of (between (codes "||") (drop l.at l.piece))) ≡ groups_of l.piece;
}

abbrev pub decreases-groups : goal.decreases-groups
decreases-groups l = length l.piece + 1 - l.at
