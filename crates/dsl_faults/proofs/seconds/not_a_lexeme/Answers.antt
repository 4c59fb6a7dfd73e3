use Rattle.std.proofs.Common.{sym, ap, ◌∙◌, rules}
use Rattle.std.proofs.lemmas.Iterator.{YieldsList-from_slice}
use Rattle.std.proofs.lemmas.List.Folds.{flat_map-map}
use Rattle.dsl_statement.specs.declared.statement.Statement.{Statement as HeldStatement}
use Rattle.dsl_statement.specs.Statements.{statement_of}
use Rattle.dsl_faults.specs.Found.{fault_of, first_of}
use Rattle.dsl_faults.specs.Faults.{lexeme_fault}
use Rattle.dsl_faults.proofs.Searches.{both_kept, first_in}
use Rattle.dsl_faults.proofs.seconds.not_a_lexeme.Goals as goal

pub returns : goal.returns
returns c =
    let fault = lexeme_fault c.args.symbols.now c.args.left.now in
    first_in fault_of (λ (s : HeldStatement). fault (statement_of s)) c.args.statements.now _ _ _ c.find_map.ensures.ran c.find_map.ensures.runs (YieldsList-from_slice c.args.statements.now cc) (λ x o q e. search (rules, both_kept))
    ∙ ap first_of (sym (flat_map-map fault statement_of c.args.statements.now))
