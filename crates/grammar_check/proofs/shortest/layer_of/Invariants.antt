use Rattle.std.proofs.Common.{◌≤◌, ◌-◌, slice_index}
use Rattle.grammar_check.proofs.shortest.layer_of.Given as goal

abbrev pub invariant-loop-n : goal.invariant-loop-n
invariant-loop-n l = slice_index l.starts (l.n - 1) ≤ l.j
