-- The steps that a program holds, as steps of the definitions.
use Rattle.grammar_core.specs.declared.steps.TreeStep.{TreeStep}
use Rattle.grammar_core.specs.declared.steps.TreeStep.TheVariants.{Token, Nulled, Rule}
use Rattle.grammar_model.specs.Steps.{Step, TokenStep, NulledStep, RuleStep}

abbrev pub step_of : TreeStep → Step
step_of (Token symbol from to) = TokenStep symbol from to
step_of (Nulled symbol at) = NulledStep symbol at
step_of (Rule rule children from to) = RuleStep rule children from to
