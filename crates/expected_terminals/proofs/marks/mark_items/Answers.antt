use Rattle.std.proofs.Common.{arith}
use Rattle.expected_terminals.proofs.Marking.{item_listed, all_listed}
use Rattle.expected_terminals.proofs.marks.mark_items.Goals as goal

pub loop-k-preserved : goal.loop-k-preserved
loop-k-preserved c = (
  c.mark_item.ensures.room,
  c.mark_item.ensures.marked,
  item_listed c.args.flat.now c.args.items.now c.loop-k.k c.at.result c.loop-k.marks.listed.items c.mark_item.new.marks.listed.items c.at.ensures c.loop-k.invariant.2 c.mark_item.ensures.listed,
)

pub returns-clause-listed : goal.returns-clause-listed
returns-clause-listed c =
    let le = c.loop-k-test.false in
    let end = c.len-k-end.ensures in
    all_listed c.args.flat.now c.args.items.now c.loop-k.k c.loop-k.marks.listed.items (omega arith) c.loop-k.invariant.2
