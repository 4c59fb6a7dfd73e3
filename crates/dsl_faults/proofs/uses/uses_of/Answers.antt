use Rattle.std.proofs.Common.{arith, sym, ◌∙◌, ◌++◌, ap}
use Rattle.std.specs.Prelude.{flat_map}
use Rattle.std.proofs.lemmas.List.{take_all}
use Rattle.std.proofs.lemmas.List.Folds.{flat_map-map}
use Rattle.dsl_statement.specs.declared.statement.Statement.{Statement as HeldStatement}
use Rattle.dsl_statement.specs.Statements.{statement_of}
use Rattle.dsl_faults.specs.Uses.{uses_of}
use Rattle.dsl_faults.proofs.Lists.{flat_more}
use Rattle.dsl_faults.proofs.uses.uses_of.Goals as goal

pub returns : goal.returns
returns c =
    let g = λ (s : HeldStatement). uses_of (statement_of s) in
    c.loop-s.invariant ∙ ap (flat_map g) (take_all c.loop-s.s-index c.args.statements.now (omega arith)) ∙ sym (flat_map-map uses_of statement_of c.args.statements.now)

pub loop-s-preserved : goal.loop-s-preserved
loop-s-preserved c =
    let g = λ (s : HeldStatement). uses_of (statement_of s) in
    c.in_ok-push_statement.ensures ∙ ap (λ us. us ++ g c.s-item.result) c.loop-s.invariant ∙ sym (flat_more g c.args.statements.now c.loop-s.s-index c.s-item.result (omega arith) c.s-item.is)
