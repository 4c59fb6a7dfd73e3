use Rattle.std.proofs.Common.{◌≡◌, ◌≤◌, ◌+◌, ◌-◌, ◌++◌, length, drop, codes}
use Rattle.std.specs.Prelude.{option_map}
use Rattle.dsl_reader.specs.Forms.{between, all_read, full_alternative_of, group_of}
use Rattle.dsl_reader.proofs.alternatives.read_group.Given as goal

abbrev pub invariant-alternatives : goal.invariant-alternatives
invariant-alternatives l = record {
  within : l.at ≤ length l.piece;
  read : option_map (λ rest. l.group.items ++ rest) (all_read full_alternative_of (between (codes "|") (drop l.at l.piece))) ≡ group_of l.piece;
}

abbrev pub decreases-alternatives : goal.decreases-alternatives
decreases-alternatives l = length l.piece + 1 - l.at
