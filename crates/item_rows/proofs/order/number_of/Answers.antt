use Rattle.std.proofs.Common.{rules, of_calls, sym, subst}
use Rattle.std.proofs.lemmas.Fn.{always_returns_same}
use Rattle.item_rows.specs.Order.{row_key}
use Rattle.item_rows.proofs.Ordered.{searched, IsFound, found_some, found_none}
use Rattle.item_rows.proofs.order.number_of.Goals as goal

pub returns-clause-some : goal.returns-clause-some
returns-clause-some c =
    found_some c.args.flat.now c.args.row.now c.requires c.args.item c.ok.result
    (subst (IsFound c.args.flat.now c.args.row.now c.requires c.args.item) (sym c.ok.ensures.value)
    (searched c.args.flat.now c.args.row.now c.requires c.args.item c.row_key.result c.binary_search_by_key.result c.row_key.ensures c.binary_search_by_key.ensures.bound
    (c.binary_search_by_key.ensures.position (row_key c.args.flat.now) (always_returns_same _ _ _ (λ a r f k. search (rules, of_calls))))))

pub returns-clause-none : goal.returns-clause-none
returns-clause-none c =
    found_none c.args.flat.now c.args.row.now c.requires c.args.item c.ok.result
    (subst (IsFound c.args.flat.now c.args.row.now c.requires c.args.item) (sym c.ok.ensures.value)
    (searched c.args.flat.now c.args.row.now c.requires c.args.item c.row_key.result c.binary_search_by_key.result c.row_key.ensures c.binary_search_by_key.ensures.bound
    (c.binary_search_by_key.ensures.position (row_key c.args.flat.now) (always_returns_same _ _ _ (λ a r f k. search (rules, of_calls))))))
