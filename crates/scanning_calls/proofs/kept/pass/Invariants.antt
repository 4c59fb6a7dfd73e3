use Rattle.std.proofs.Common.{◌≡◌}
use Rattle.scanning_calls.proofs.Gathering.{AreSoMany}
use Rattle.scanning_calls.proofs.kept.pass.Given as goal

abbrev pub invariant-passed : goal.invariant-passed
invariant-passed g l = record {
  given : AreSoMany l.iter l.counter;
  forest : l.iter.forest ≡ l.fn.iter.forest;
}
