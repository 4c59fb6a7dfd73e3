use Rattle.std.proofs.Common.{subst, length}
use Rattle.grammar_core.specs.Written.{rule_of}
use Rattle.grammar_core.specs.declared.rule.WrittenRule.{WrittenRule}
use Rattle.dsl_build.specs.Ready.{IsGood}
use Rattle.dsl_build.proofs.writing.add_rule.Goals as goal

pub add_plain-requires-clause-good : goal.add_plain-requires-clause-good
add_plain-requires-clause-good c = subst (λ (r : WrittenRule). IsGood (length c.args.w.now.names) (rule_of r)) c.in-Plain.is c.requires.good
