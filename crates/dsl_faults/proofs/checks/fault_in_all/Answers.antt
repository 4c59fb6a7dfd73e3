use Rattle.std.proofs.Common.{◌≡◌, subst, sym, rules}
use Rattle.std.specs.Prelude.{IfOk, option_map}
use Rattle.std.proofs.lemmas.List.Folds.{flat_map-map}
use Rattle.dsl_statement.specs.declared.statement.Statement.{Statement as HeldStatement}
use Rattle.dsl_statement.specs.Statements.{statement_of}
use Rattle.dsl_faults.specs.Found.{fault_of, first_of}
use Rattle.dsl_faults.specs.Adverbs.{statement_faults}
use Rattle.dsl_faults.proofs.checks.fault_in_all.Goals as goal

pub returns : goal.returns
returns c =
    subst (λ fs. IfOk c.first_found.result (λ found. option_map fault_of found ≡ first_of fs)) (sym (flat_map-map (statement_faults c.args.check) statement_of c.args.statements.now))
    (c.first_found.ensures (λ (s : HeldStatement). statement_faults c.args.check (statement_of s)) (λ x o e. search rules))
