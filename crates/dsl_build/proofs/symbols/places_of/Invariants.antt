use Rattle.std.proofs.Common.{◌≡◌, take, map}
use Rattle.language_model.specs.Building.{place_in}
use Rattle.dsl_build.proofs.symbols.places_of.Given as goal

abbrev pub invariant-loop-k : goal.invariant-loop-k
invariant-loop-k l = l.places.items ≡ map (place_in l.names) (take l.k l.texts)
