use Rattle.std.proofs.Common.{arith, ◌∙◌, ◌++◌, ap, map}
use Rattle.std.proofs.lemmas.List.{take_all}
use Rattle.language_model.specs.Classes.{class_of_char}
use Rattle.dsl_build.proofs.sets.push_characters.Goals as goal

pub returns : goal.returns
returns c = c.loop-c.invariant ∙ ap (λ xs. c.args.sets.now.items ++ map (λ x. class_of_char x c.args.caseless) xs) (take_all c.loop-c.c-index c.args.characters.now (omega arith))
