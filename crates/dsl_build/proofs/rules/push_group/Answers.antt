use Rattle.std.proofs.Common.{arith, ◌∙◌, ◌++◌, ap, map}
use Rattle.std.proofs.lemmas.List.{take_all}
use Rattle.grammar_core.specs.Written.{rule_of}
use Rattle.dsl_build.specs.Resolving.{plain_with}
use Rattle.dsl_build.proofs.rules.push_group.Goals as goal

pub returns : goal.returns
returns c =
    c.loop-alternative.invariant
    ∙ ap (λ xs. map rule_of c.args.out.now.items ++ map (plain_with c.args.names.now c.args.lhs c.args.level c.args.groups) xs) (take_all c.loop-alternative.alternative-index c.args.group.now (omega arith))
