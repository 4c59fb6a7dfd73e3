use Rattle.std.proofs.Common.{◌++◌, ◌∙◌, ℕ, List, sym, ap, subst}
use Rattle.std.specs.Prelude.{reverse}
use Rattle.std.proofs.lemmas.List.{reverse-reverse}
use Rattle.std.proofs.lemmas.Result.{IfOk-from_err}
use Rattle.glade_laws.specs.Walks.{IsFirst}
use Rattle.glades.proofs.report.first_shape.Goals as goal

pub returns-clause-shape : goal.returns-clause-shape
returns-clause-shape c =
    let (starts, first, items) = c.in_ok-push_first.ensures in (
      c.rule_of-rule.ensures,
      subst (IsFirst c.args.forest.now c.args.node) (sym (c.in_ok-starts.ensures.starts ∙ ap reverse (items ∙ ap (λ (l : List ℕ). l ++ reverse starts) c.requires.empty) ∙ reverse-reverse starts)) first,
    )

pub returns-in_err-push_first-clause-shape : goal.returns-in_err-push_first-clause-shape
returns-in_err-push_first-clause-shape c = IfOk-from_err _ _ c.from_residual.ensures.0

pub returns-in_err-starts-clause-shape : goal.returns-in_err-starts-clause-shape
returns-in_err-starts-clause-shape c = IfOk-from_err _ _ c.from_residual-in_err-starts.ensures.0
