use Rattle.std.proofs.Common.{◌≡◌, take, map, ◌++◌}
use Rattle.std.specs.Prelude.{flat_map}
use Rattle.value_text.specs.Meaning.{action_of, rule_meaning_of}
use Rattle.dsl_meanings.specs.Meanings.{meaning_of_alternative}
use Rattle.dsl_meanings.proofs.meanings.push_groups.Given as goal

abbrev pub invariant-loop-group : goal.invariant-loop-group
invariant-loop-group l = map rule_meaning_of l.out.items ≡ map rule_meaning_of l.fn.out.items ++ flat_map (λ g. map (meaning_of_alternative (action_of l.default)) g.items) (take l.group-index l.groups)
