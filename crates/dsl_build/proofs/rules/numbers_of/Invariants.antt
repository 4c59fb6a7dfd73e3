use Rattle.std.proofs.Common.{◌≡◌, take, map, Bor}
use Rattle.language_model.specs.Tokens.{Spelled}
use Rattle.language_model.specs.Building.{place_in}
use Rattle.dsl_build.proofs.rules.numbers_of.Given as goal

abbrev pub invariant-loop-part : goal.invariant-loop-part
invariant-loop-part l = l.numbers.items ≡ map (λ (t : Bor Spelled). place_in l.names t.now.content) (take l.part-index l.parts)
