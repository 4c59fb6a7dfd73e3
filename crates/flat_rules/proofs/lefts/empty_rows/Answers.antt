use Rattle.std.proofs.Common.{arith, ap, ◌∙◌, length, length-append, subst, ◌≡◌, [], ◌∷◌, sym}
use Rattle.flat_rules.specs.Tables.{rows_of, row_at}
use Rattle.flat_rules.proofs.Rows.{empty_more}
use Rattle.flat_rules.proofs.lefts.empty_rows.Goals as goal

pub loop-row-preserved : goal.loop-row-preserved
loop-row-preserved c =
    let e = c.in_ok-push.ensures.items in
    let long = ap length e ∙ length-append c.loop-row.rows.items (c.new-row.result ∷ []) in (
      omega (arith, long, c.loop-row.invariant.0),
      (λ s. subst (λ items. row_at (rows_of items) s ≡ []) (sym e) (empty_more c.loop-row.rows.items c.new-row.result c.new-row.ensures.items c.loop-row.invariant.1 s)),
    )
