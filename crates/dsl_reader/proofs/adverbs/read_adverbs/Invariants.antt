use Rattle.std.proofs.Common.{◌≡◌, ◌≤◌, ◌-◌, ◌++◌, length, drop, map}
use Rattle.std.specs.Prelude.{option_map}
use Rattle.dsl_statement.specs.Statements.{adverb_of as adverb_seen}
use Rattle.dsl_reader.specs.Reading.{adverbs_of}
use Rattle.dsl_reader.proofs.adverbs.read_adverbs.Given as goal

abbrev pub invariant-loop-at : goal.invariant-loop-at
invariant-loop-at l = record {
  within : l.at ≤ length l.piece;
  read : option_map (λ rest. map adverb_seen l.adverbs.items ++ rest) (adverbs_of (drop l.at l.piece)) ≡ adverbs_of l.piece;
}

abbrev pub decreases-loop-at : goal.decreases-loop-at
decreases-loop-at l = length l.piece - l.at
