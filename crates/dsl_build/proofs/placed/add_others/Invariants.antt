use Rattle.std.proofs.Common.{◌≡◌, ◌++◌, take}
use Rattle.std.specs.Prelude.{filter, not}
use Rattle.language_model.specs.Building.{is_one_of}
use Rattle.dsl_build.proofs.placed.add_others.Given as goal

abbrev pub invariant-loop-place : goal.invariant-loop-place
invariant-loop-place l = l.names ≡ l.fn.names ++ filter (λ t. not (is_one_of l.fn.names t)) (take l.place l.texts)
