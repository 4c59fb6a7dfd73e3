use Rattle.std.proofs.Common.{◌-◌, drop, sym, ap, ◌∙◌, add-one, arith}
use Rattle.forest_laws.specs.Guide.{top_of}
use Rattle.tree_iter.proofs.LeadRows.{newest_next, newest_none, newest_within}
use Rattle.tree_iter.proofs.leads.below_newest.Goals as goal

pub row_at-top-requires : goal.row_at-top-requires
row_at-top-requires c =
    let ends = c.requires.ends.0 in
    let some = c.if-top-eq0.false in
    newest_within c.args.rows.now ends c.newest.counter c.newest.top c.requires.ends.1 (c.newest.invariant ends c.requires.ends.1 c.requires.ends.2) (omega arith)

pub returns-then-top-eq0 : goal.returns-then-top-eq0
returns-then-top-eq0 c = λ ends h at.
    newest_none c.args.rows.now ends c.newest.counter c.args.count c.newest.top h (c.newest.invariant ends h at) c.if-top-eq0.true (omega arith)

pub newest-preserved : goal.newest-preserved
newest-preserved c = λ ends h at.
    let some = c.if-top-eq0.false in
    newest_next c.args.rows.now ends c.newest.counter c.newest.top (c.newest.top - 1) c.row_at-top.result h (c.newest.invariant ends h at) (omega arith) c.row_at-top.ensures
    ∙ ap (λ k. top_of (drop k ends)) (sym (add-one c.newest.counter))
