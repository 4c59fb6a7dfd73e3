use Rattle.std.proofs.Common.{subst}
use Rattle.std.proofs.lemmas.Result.{IfOk-weaker}
use Rattle.prepared_grammars.specs.Faults.{IsRefusal}
use Rattle.text_reading.proofs.Refusing.{structural_text, lexical_text, rules_text}
use Rattle.text_reading.proofs.phrases.grammars_text.Goals as goal

pub returns-in-Grammar : goal.returns-in-Grammar
returns-in-Grammar c =
    IfOk-weaker c.check_text.result _ _
    (λ text e b refused. let said = subst (IsRefusal b) c.in-Grammar.is refused in structural_text b c.in-Grammar.w c.in-Grammar.refusal said.0 said.1 text.items e) c.check_text.ensures

pub returns-in-Lexical : goal.returns-in-Lexical
returns-in-Lexical c =
    IfOk-weaker c.check_text-in-Lexical.result _ _
    (λ text e b refused. let said = subst (IsRefusal b) c.in-Lexical.is refused in lexical_text b c.in-Lexical.w c.in-Lexical.refusal said.0 said.1 text.items e) c.check_text-in-Lexical.ensures

pub returns-in_ok-rules_text-in-TooManyRules : goal.returns-in_ok-rules_text-in-TooManyRules
returns-in_ok-rules_text-in-TooManyRules c =
    λ b refused. rules_text b c.in-TooManyRules.lexical (subst (IsRefusal b) c.in-TooManyRules.is refused) c.in_ok-rules_text-in-TooManyRules.field-0.items (c.in_ok-rules_text-in-TooManyRules.ensures b)
