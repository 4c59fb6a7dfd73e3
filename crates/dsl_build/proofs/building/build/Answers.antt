use Rattle.std.proofs.Common.{◌≡◌, ◌∙◌, ap, map, sym, subst}
use Rattle.std.specs.Prelude.{flat_map, IfOk}
use Rattle.language_model.specs.Building.{faults_of, built_of}
use Rattle.language_model.specs.Texts.{IsDescription}
use Rattle.dsl_statement.specs.Statements.{statement_of}
use Rattle.dsl_faults.specs.Found.{Tells}
use Rattle.dsl_faults.specs.Uses.{uses_of}
use Rattle.dsl_build.proofs.building.build.Goals as goal

pub checked-built-requires-clause-described : goal.checked-built-requires-clause-described
checked-built-requires-clause-described c =
    let same : map statement_of c.deref-2.result.now ≡ c.args.d.now = ap (map statement_of) c.deref-2.ensures.value ∙ c.d.view_is in
    subst IsDescription (sym same) c.requires.read

pub checked-built-requires-clause-uses : goal.checked-built-requires-clause-uses
checked-built-requires-clause-uses c = c.in_ok-named.ensures.uses ∙ ap (λ ss. flat_map uses_of (map statement_of ss)) (c.deref.ensures.value ∙ sym c.deref-2.ensures.value)

pub returns-clause-built : goal.returns-clause-built
returns-clause-built c =
    let same : map statement_of c.deref-2.result.now ≡ c.args.d.now = ap (map statement_of) c.deref-2.ensures.value ∙ c.d.view_is in
    subst (λ d. IfOk c.checked-built.result (λ b. b ≡ built_of d)) same c.checked-built.ensures.built

pub returns-clause-faults : goal.returns-clause-faults
returns-clause-faults c =
    let same : map statement_of c.deref-2.result.now ≡ c.args.d.now = ap (map statement_of) c.deref-2.ensures.value ∙ c.d.view_is in
    subst (λ d. Tells (faults_of d) c.checked-built.result) same c.checked-built.ensures.faults
