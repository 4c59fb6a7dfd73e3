use Rattle.std.proofs.Common.{sym, arith}
use Rattle.std.proofs.lemmas.Bool.{ltb-true}
use Rattle.forest_parts.proofs.Rows.{none_there, held_at}
use Rattle.forest_parts.proofs.given.row_of.Goals as goal

pub returns-else-row-place-clause-none : goal.returns-else-row-place-clause-none
returns-else-row-place-clause-none c none row h =
    let lt = ltb-true _ _ (sym c.in_ok-row.ensures.lookup.0) in
    let is = sym c.in_ok-row.ensures.lookup.1 in
    none_there c.args.rows.now c.requires c.args.place c.count_later.result c.in_ok-row.field-0.now lt is c.count_later.ensures.later
    (c.count_later.ensures.other c.count_later.result c.in_ok-row.field-0.now (omega arith) (held_at c.args.rows.now c.count_later.result c.in_ok-row.field-0.now lt is)) c.if-row-place.false row h
