use Rattle.std.proofs.Common.{◌≡◌, take, map}
use Rattle.language_model.specs.Building.{place_in}
use Rattle.dsl_build.proofs.symbols.symbols_of.Given as goal

abbrev pub invariant-loop-place : goal.invariant-loop-place
invariant-loop-place l = l.symbols.items ≡ map (place_in l.names) (take l.place l.texts)
