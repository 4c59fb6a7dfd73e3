use Rattle.item_rows.specs.Rows.{row_at, shared_at}
use Rattle.expected_terminals.proofs.Expecting.{wait_by_list}
use Rattle.expected_terminals.proofs.expected.find_shared.Goals as goal

pub returns-then-waits_by-clause-alike : goal.returns-then-waits_by-clause-alike
returns-then-waits_by-clause-alike c =
    wait_by_list c.args.rows.now.flat (row_at c.args.rows.now.sets c.in_ok-note.note.like) (row_at c.args.rows.now.sets c.args.j) (shared_at c.args.rows.now.shared c.in_ok-list.list) c.in_ok-note.note.like c.args.j (c.waits_by.ensures c.if-waits_by.true)
    c.in_ok-list.ensures.alone
