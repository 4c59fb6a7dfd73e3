use Rattle.std.proofs.Common.{◌≡◌}
use Rattle.value_lines.proofs.Counting.{HasCounted}
use Rattle.value_lines.proofs.counts.count_derivations.Given as goal

abbrev pub invariant-loop-count : goal.invariant-loop-count
invariant-loop-count g l = record {
  counted : HasCounted l.iter l.count l.fn.steps l.steps;
  forest : l.iter.forest ≡ l.fn.forest;
}
