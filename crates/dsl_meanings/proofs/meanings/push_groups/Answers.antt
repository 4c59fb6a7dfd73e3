use Rattle.std.proofs.Common.{arith, ◌∙◌, ◌++◌, ap, map, List, Vec, Global}
use Rattle.std.specs.Prelude.{flat_map}
use Rattle.std.proofs.lemmas.List.{take_all}
use Rattle.value_text.specs.Meaning.{action_of, rule_meaning_of}
use Rattle.dsl_statement.specs.declared.statement.Alternative.{Alternative as HeldAlternative}
use Rattle.dsl_meanings.specs.Meanings.{meaning_of_alternative}
use Rattle.dsl_meanings.proofs.meanings.push_groups.Goals as goal

pub returns : goal.returns
returns c =
    c.loop-group.invariant
    ∙ ap (λ (gs : List (Vec HeldAlternative Global)). map rule_meaning_of c.args.out.now.items ++ flat_map (λ g. map (meaning_of_alternative (action_of c.args.default.now)) g.items) gs) (take_all c.loop-group.group-index c.args.groups.now (omega arith))
