use Rattle.std.proofs.Common.{subst}
use Rattle.grammar_model.specs.Grammar.{Plain}
use Rattle.grammar_core.specs.Refusals.{Answers}
use Rattle.marpa_script.proofs.Granting.{plain_granted}
use Rattle.marpa_script.proofs.building.add_rule.Goals as goal

pub granted-requires : goal.granted-requires
granted-requires c =
    subst (λ o. Answers o c.rule_new.result)
    (plain_granted c.args.w.now (Plain c.plain.result) c.args.lhs c.args.rhs.items c.plain.ensures c.requires.lhs c.requires.rhs c.requires.short c.requires.room) c.rule_new.ensures.refusal
