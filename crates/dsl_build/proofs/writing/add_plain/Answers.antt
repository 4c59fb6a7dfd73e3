use Rattle.std.proofs.Common.{subst}
use Rattle.grammar_model.specs.Grammar.{Plain}
use Rattle.grammar_core.specs.Refusals.{Answers}
use Rattle.dsl_build.proofs.Granting.{rule_granted}
use Rattle.dsl_build.proofs.writing.add_plain.Goals as goal

pub granted-requires : goal.granted-requires
granted-requires c = subst (λ o. Answers o c.rule_new.result) (rule_granted c.args.w.now (Plain c.args.rule) c.requires.good c.requires.room) c.rule_new.ensures.refusal
