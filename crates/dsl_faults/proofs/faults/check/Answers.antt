use Rattle.std.proofs.Common.{◌≡◌, ◌∙◌, ap, map, subst}
use Rattle.language_model.specs.Building.{faults_of}
use Rattle.dsl_statement.specs.Statements.{statement_of}
use Rattle.dsl_faults.specs.Found.{Tells}
use Rattle.dsl_faults.proofs.faults.check.Goals as goal

pub returns : goal.returns
returns c =
    let same : map statement_of c.deref-2.result.now ≡ c.args.d.now = ap (map statement_of) c.deref-2.ensures.value ∙ c.d.view_is in
    subst (λ d. Tells (faults_of d) c.check_named.result) same c.check_named.ensures
