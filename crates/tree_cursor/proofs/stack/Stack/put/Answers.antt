use Rattle.std.proofs.Common.{sym, ap, ◌∙◌, ◌++◌, ◌∷◌, [], subst}
use Rattle.grammar_core.specs.Steps.{step_of}
use Rattle.grammar_model.specs.Steps.{RuleStep}
use Rattle.tree_cursor.specs.Told.{IsDone}
use Rattle.tree_cursor.specs.declared.stack.Stack.{Stack}
use Rattle.tree_cursor.proofs.Stacks.{rule_done}
use Rattle.tree_cursor.proofs.stack.Stack.put.Goals as goal

pub returns-in_ok-push-in-Rule-clause-done : goal.returns-in_ok-push-in-Rule-clause-done
returns-in_ok-push-in-Rule-clause-done c =
    let new : Stack = record { starts = c.push.new.self; end = c.take.new.self.end } in
    let within = c.in-Some.ensures.within in
    let end = c.take.ensures.end in
    subst (λ s. IsDone c.args.self.now new (step_of s) (RuleStep c.in-Rule.rule c.in-Rule.children c.in-Some.from c.take.new.self.end)) (sym c.in-Rule.is)
    (subst (λ e. IsDone c.args.self.now new (RuleStep c.in-Rule.rule c.in-Rule.children c.in-Rule.from c.in-Rule.to) (RuleStep c.in-Rule.rule c.in-Rule.children c.in-Some.from e)) (sym end)
    (rule_done c.args.self.now new c.in-Rule.rule c.in-Rule.children c.in-Some.from c.in-Rule.from c.in-Rule.to within.0 within.1 c.in-Some.ensures.start
    (c.in_ok-push-in-Rule.ensures.items ∙ ap (λ l. l ++ c.in-Some.from ∷ []) c.in-Some.ensures.left) end))
