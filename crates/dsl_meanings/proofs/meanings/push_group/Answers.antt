use Rattle.std.proofs.Common.{arith, ◌∙◌, ◌++◌, ap, map}
use Rattle.std.proofs.lemmas.List.{take_all}
use Rattle.value_text.specs.Meaning.{action_of, rule_meaning_of}
use Rattle.dsl_meanings.specs.Meanings.{meaning_of_alternative}
use Rattle.dsl_meanings.proofs.meanings.push_group.Goals as goal

pub returns : goal.returns
returns c =
    c.loop-alternative.invariant
    ∙ ap (λ xs. map rule_meaning_of c.args.out.now.items ++ map (meaning_of_alternative (action_of c.args.default.now)) xs) (take_all c.loop-alternative.alternative-index c.args.group.now (omega arith))
