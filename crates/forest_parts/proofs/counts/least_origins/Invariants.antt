use Rattle.std.proofs.Common.{◌≡◌, take, length}
use Rattle.forest_parts.specs.Counts.{AreLeast}
use Rattle.forest_parts.proofs.counts.least_origins.Given as goal

abbrev pub invariant-loop-k : goal.invariant-loop-k
invariant-loop-k l = record {
  long : length l.least.items ≡ l.places;
  least : AreLeast (take l.k l.keys) l.least.items;
}
