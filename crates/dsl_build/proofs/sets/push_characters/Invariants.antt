use Rattle.std.proofs.Common.{◌≡◌, take, map, ◌++◌}
use Rattle.language_model.specs.Classes.{class_of_char}
use Rattle.dsl_build.proofs.sets.push_characters.Given as goal

abbrev pub invariant-loop-c : goal.invariant-loop-c
invariant-loop-c l = l.sets.items ≡ l.fn.sets.items ++ map (λ c. class_of_char c l.caseless) (take l.c-index l.characters)
