use Rattle.std.proofs.Common.{arith, ◌≡◌, ℕ, ◌<◌, ◌+◌, ◌++◌, ◌∷◌, [], List, subst, sym, ap, ◌∙◌, All, map}
use Rattle.jagged.specs.Rows.{row_at}
use Rattle.grammar_check.specs.Settled.{node_clause, IsOfNodes}
use Rattle.grammar_check.proofs.Gaining.{row_known}
use Rattle.slot_analysis.proofs.More.{more_none, more_by, more_pushed}
use Rattle.grammar_check.proofs.Settling.{nodes_split}
use Rattle.grammar_check.proofs.cycles.push_nodes.Goals as goal

pub put_shifted-requires-clause-known : goal.put_shifted-requires-clause-known
put_shifted-requires-clause-known c = subst (λ l. All (λ h. h < c.args.total) l) (sym c.row.ensures) (row_known c.args.total c.args.rows.now c.loop-y.y c.requires.rows)

pub loop-y-init : goal.loop-y-init
loop-y-init c = more_none c.args.clauses.now (IsOfNodes c.args.rows.now c.args.total 0) (λ d (y, lt, e). omega (arith, lt))

pub loop-y-preserved : goal.loop-y-preserved
loop-y-preserved c =
    let body : c.deref.result.now ≡ map (λ h. c.args.total + h) (row_at c.args.rows.now c.loop-y.y) = c.deref.ensures.value ∙ (c.in_ok-put_shifted.ensures ∙ ap (map (λ h. c.args.total + h)) c.row.ensures) in
    more_by c.args.clauses.now c.loop-y.clauses c.push.new.self (IsOfNodes c.args.rows.now c.args.total c.loop-y.y) (λ d. d ≡ node_clause c.args.rows.now c.args.total c.loop-y.y) (IsOfNodes c.args.rows.now c.args.total (c.loop-y.y + 1))
    (nodes_split c.args.rows.now c.args.total c.loop-y.y) c.loop-y.invariant
    (more_pushed c.loop-y.clauses c.push.new.self (node_clause c.args.rows.now c.args.total c.loop-y.y) (c.in_ok-push.ensures.ok ∙ ap (λ (b : List ℕ). c.loop-y.clauses ++ record { head = c.loop-y.y; body = b } ∷ []) body))
