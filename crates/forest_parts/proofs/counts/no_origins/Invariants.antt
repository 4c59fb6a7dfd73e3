use Rattle.std.proofs.Common.{◌≡◌, [], length}
use Rattle.forest_parts.specs.Counts.{AreLeast}
use Rattle.forest_parts.proofs.counts.no_origins.Given as goal

abbrev pub invariant-loop-k : goal.invariant-loop-k
invariant-loop-k l = record {
  long : length l.least.items ≡ l.k;
  least : AreLeast [] l.least.items;
}
