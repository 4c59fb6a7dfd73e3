use Rattle.std.proofs.Common.{sym, ap, subst}
use Rattle.flat_steps.specs.Writing.{flat_step, IsEffect}
use Rattle.flat_steps.proofs.writing.effect_of.Goals as goal

pub returns-in-Rule : goal.returns-in-Rule
returns-in-Rule c = λ counts k.
    subst (λ s. IsEffect c.args.written.now c.args.flat.now c.args.rows.now counts s c.rule_effect.result) (sym (ap flat_step c.in-Rule.is)) (c.rule_effect.ensures c.args.written.now counts k)
