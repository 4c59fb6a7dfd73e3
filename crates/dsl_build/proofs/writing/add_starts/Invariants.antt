use Rattle.std.proofs.Common.{◌≡◌, take}
use Rattle.dsl_build.specs.Rules.{with_starts}
use Rattle.dsl_build.proofs.writing.add_starts.Given as goal

abbrev pub invariant-loop-symbol : goal.invariant-loop-symbol
invariant-loop-symbol l = l.w ≡ with_starts l.fn.w (take l.symbol-index l.starts)
