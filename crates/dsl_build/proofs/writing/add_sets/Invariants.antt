use Rattle.std.proofs.Common.{◌≡◌}
use Rattle.language_model.specs.Building.{set_names}
use Rattle.dsl_build.specs.Rules.{with_names}
use Rattle.dsl_build.proofs.writing.add_sets.Given as goal

abbrev pub invariant-loop-number : goal.invariant-loop-number
invariant-loop-number l = l.w ≡ with_names l.fn.w (set_names l.number)
