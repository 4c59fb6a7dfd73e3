use Rattle.std.proofs.Common.{◌≡◌, take, map, ◌++◌}
use Rattle.value_text.specs.Meaning.{action_of, rule_meaning_of}
use Rattle.dsl_meanings.specs.Meanings.{meaning_of_alternative}
use Rattle.dsl_meanings.proofs.meanings.push_group.Given as goal

abbrev pub invariant-loop-alternative : goal.invariant-loop-alternative
invariant-loop-alternative l = map rule_meaning_of l.out.items ≡ map rule_meaning_of l.fn.out.items ++ map (meaning_of_alternative (action_of l.default)) (take l.alternative-index l.group)
