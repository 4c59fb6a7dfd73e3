use Rattle.std.proofs.Common.{◌≡◌, ◌≤◌, ◌-◌, [], length, drop, Some}
use Rattle.dsl_reader.specs.Reading.{alternative_of}
use Rattle.dsl_reader.proofs.alternatives.read_hidden.Given as goal

abbrev pub invariant-loop-alloc : goal.invariant-loop-alloc
invariant-loop-alloc l = record {
  within : length l.parts.items ≤ length l.piece;
  read : alternative_of (drop (length l.parts.items) l.piece) (Some l.parts.items) ≡ alternative_of l.piece (Some []);
}

abbrev pub decreases-loop-alloc : goal.decreases-loop-alloc
decreases-loop-alloc l = length l.piece - length l.parts.items
