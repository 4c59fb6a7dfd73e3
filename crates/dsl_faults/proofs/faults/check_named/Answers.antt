use Rattle.std.proofs.Common.{◌≡◌, ◌∙◌, ap, map, subst}
use Rattle.language_model.specs.Building.{faults_of}
use Rattle.dsl_statement.specs.Statements.{statement_of}
use Rattle.dsl_faults.specs.Found.{Tells}
use Rattle.dsl_faults.specs.Uses.{used_of}
use Rattle.dsl_faults.specs.Faults.{all_faults}
use Rattle.dsl_faults.proofs.Bridges.{faults_are}
use Rattle.dsl_faults.proofs.faults.check_named.Goals as goal

pub returns : goal.returns
returns c =
    let d = map statement_of c.args.statements.now in
    let n = c.args.named.now in
    let us = map used_of n.uses.items in
    let same : all_faults n.symbols n.structural n.lexical (map used_of c.deref.result.now) d ≡ faults_of d =
    ap (λ xs. all_faults n.symbols n.structural n.lexical (map used_of xs) d) c.deref.ensures.value
    ∙ faults_are d us n.symbols n.structural n.lexical c.requires.uses c.requires.tables.symbols c.requires.tables.structural c.requires.tables.lexical in
    subst (λ fs. Tells fs c.tell_all.result) same c.tell_all.ensures
