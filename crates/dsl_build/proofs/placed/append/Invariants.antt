use Rattle.std.proofs.Common.{◌≡◌, take, ◌++◌}
use Rattle.dsl_build.proofs.placed.append.Given as goal

abbrev pub invariant-loop-place : goal.invariant-loop-place
invariant-loop-place l = l.names ≡ l.fn.names ++ take l.place l.more
