use Rattle.std.proofs.Common.{◌≡◌, subst, sym, rules}
use Rattle.std.specs.Prelude.{IfOk, flat_map, option_map}
use Rattle.std.proofs.lemmas.List.Folds.{flat_map-map}
use Rattle.language_model.specs.Description.{Statement}
use Rattle.language_model.specs.Building.{long_parts, right_sides}
use Rattle.dsl_statement.specs.declared.statement.Statement.{Statement as HeldStatement}
use Rattle.dsl_statement.specs.Statements.{statement_of}
use Rattle.dsl_faults.specs.Found.{fault_of, first_of}
use Rattle.dsl_faults.proofs.seconds.too_long.Goals as goal

pub returns : goal.returns
returns c =
    let long = λ (s : Statement). flat_map (long_parts 0) (right_sides s) in
    subst (λ fs. IfOk c.first_found.result (λ found. option_map fault_of found ≡ first_of fs)) (sym (flat_map-map long statement_of c.args.statements.now))
    (c.first_found.ensures (λ (s : HeldStatement). long (statement_of s)) (λ x o e. search rules))
