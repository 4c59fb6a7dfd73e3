use Rattle.std.proofs.Common.{◌≡◌, ◌∷◌, [], ◌∙◌, ℕ, List, Vec, Global, map, ap, subst, arith}
use Rattle.std.proofs.lemmas.List.{map-append}
use Rattle.grammar_model.specs.Grammar.{Grammar}
use Rattle.run_model.specs.Checking.{head_line, row_line}
use Rattle.slif_cli.specs.Stops.{told_row}
use Rattle.slif_cli.proofs.Rows.{line_more}
use Rattle.slif_cli.proofs.checking.check_lines.Goals as goal

pub loop-row-preserved : goal.loop-row-preserved
loop-row-preserved c =
    let items : Vec ℕ Global → List ℕ = λ v. v.items in
    let line : List ℕ = c.in_ok-line_of.field-0.items in
    let is : line ≡ row_line c.args.prepared.now.g1 (told_row c.row-item.result) = subst (λ (w : Grammar). line ≡ row_line w (told_row c.row-item.result)) c.written.ensures c.in_ok-line_of.ensures in
    let pushed = ap (λ (vs : List (Vec ℕ Global)). map items vs) c.in_ok-push-2.ensures.items ∙ map-append items c.loop-row.lines.items (c.in_ok-line_of.field-0 ∷ []) in
    line_more c.args.prepared.now.g1 (head_line c.args.prepared.now) c.deref-row-items.result.now c.loop-row.row-index c.row-item.result (omega (arith, c.loop-row-test.true, c.loop-row.auto.row-index-end)) c.row-item.is _ _ line c.loop-row.invariant is pushed
