use Rattle.std.proofs.Common.{arith, ◌∙◌, ap, map, Bor}
use Rattle.std.proofs.lemmas.List.{take_all}
use Rattle.language_model.specs.Tokens.{Spelled}
use Rattle.language_model.specs.Building.{place_in}
use Rattle.dsl_build.proofs.rules.numbers_of.Goals as goal

pub returns : goal.returns
returns c = c.loop-part.invariant ∙ ap (map (λ (t : Bor Spelled). place_in c.args.names.now t.now.content)) (take_all c.loop-part.part-index c.args.parts.now (omega arith))
