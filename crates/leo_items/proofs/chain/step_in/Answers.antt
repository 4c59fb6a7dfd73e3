use Rattle.item_rows.specs.Rows.{row_at}
use Rattle.item_rows.proofs.Viewing.{waits_over}
use Rattle.leo_items.proofs.Chains.{step_by_row}
use Rattle.leo_items.proofs.chain.step_in.Goals as goal

pub leo_of-requires : goal.leo_of-requires
leo_of-requires c item h =
    let waits = waits_over c.args.rows.now c.args.flat.now (row_at c.args.rows.now.sets c.args.pair.set) c.waiting-waiting.result c.args.pair.symbol c.requires.rows.flat c.waiting-waiting.ensures in
    (c.args.pair.symbol, ((waits.exact item).0 h).1)

pub returns : goal.returns
returns c =
    let waits = waits_over c.args.rows.now c.args.flat.now (row_at c.args.rows.now.sets c.args.pair.set) c.waiting-waiting.result c.args.pair.symbol c.requires.rows.flat c.waiting-waiting.ensures in
    step_by_row c.args.flat.now c.args.rows.now.sets c.args.pair.set c.args.pair.symbol c.waiting-waiting.result c.leo_of.result waits c.leo_of.ensures
