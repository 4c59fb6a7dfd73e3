use Rattle.std.proofs.Common.{◌≡◌, ◌≤◌, ◌-◌, length, drop, map, None}
use Rattle.dsl_statement.specs.Statements.{element_of as element_seen}
use Rattle.dsl_reader.specs.Reading.{alternative_of}
use Rattle.dsl_reader.proofs.ReadingLemmas.{onto_elements}
use Rattle.dsl_reader.proofs.alternatives.read_alternative.Given as goal

abbrev pub invariant-loop-alloc : goal.invariant-loop-alloc
invariant-loop-alloc l = record {
  within : l.at ≤ length l.piece;
  read : onto_elements (map element_seen l.elements.items) (alternative_of (drop l.at l.piece) None) ≡ alternative_of l.piece None;
}

abbrev pub decreases-loop-alloc : goal.decreases-loop-alloc
decreases-loop-alloc l = length l.piece - l.at
