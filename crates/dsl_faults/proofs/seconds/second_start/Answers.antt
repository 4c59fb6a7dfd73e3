use Rattle.std.proofs.Common.{sym, ap, ◌∙◌, arith, rules, tests, ◌+◌, ◌-◌, ◌≤◌, drop, length, true, false, ◌≡◌}
use Rattle.std.proofs.lemmas.List.{length-drop, take_all}
use Rattle.std.specs.Prelude.{option_map}
use Rattle.std.proofs.lemmas.Iterator.{YieldsList-from_slice, IsFirst-from_position}
use Rattle.dsl_statement.specs.declared.statement.Statement.{Statement as HeldStatement}
use Rattle.dsl_statement.specs.Statements.{statement_of}
use Rattle.dsl_faults.specs.Found.{fault_of, first_of}
use Rattle.dsl_faults.specs.Faults.{start_fault, is_start}
use Rattle.dsl_faults.proofs.SecondLemmas.{second_behind, no_second}
use Rattle.dsl_faults.proofs.Searches.{first_in}
use Rattle.dsl_faults.proofs.seconds.second_start.Goals as goal

pub returns-in_err-first : goal.returns-in_err-first
returns-in_err-first c =
    let ss = c.args.statements.now in
    let at = IsFirst-from_position _ _ c.position.result (λ (s : HeldStatement). true ≡ is_start (statement_of s)) (λ s. false ≡ is_start (statement_of s)) c.position.ensures.ran (YieldsList-from_slice ss cc) (λ x q e. search (rules, tests)) (λ x q e. search (rules, tests)) in
    ap (option_map fault_of) c.from_residual.ensures ∙ sym (ap first_of (no_second ss c.position.result at c.in_err-first.was))

pub returns : goal.returns
returns c =
    let ss = c.args.statements.now in
    let at = IsFirst-from_position _ _ c.position.result (λ (s : HeldStatement). true ≡ is_start (statement_of s)) (λ s. false ≡ is_start (statement_of s)) c.position.ensures.ran (YieldsList-from_slice ss cc) (λ x q e. search (rules, tests)) (λ x q e. search (rules, tests)) in
    let rest = drop (c.in_ok-first.first + 1) ss in
    let long : length rest ≤ length ss - (c.in_ok-first.first + 1) = omega (arith, length-drop (c.in_ok-first.first + 1) ss) in
    first_in fault_of (λ (s : HeldStatement). start_fault (statement_of s)) rest _ _ _ c.find_map.ensures.ran c.find_map.ensures.runs (YieldsList-from_slice rest (c.iter-2.ensures.rest ∙ take_all _ rest long)) (λ x o q e. search rules)
    ∙ ap first_of (sym (second_behind ss c.position.result c.in_ok-first.first at c.in_ok-first.was))
