use Rattle.item_rows.specs.Rows.{row_at}
use Rattle.expected_terminals.proofs.Expecting.{wait_alike}
use Rattle.expected_terminals.proofs.expected.find_note.Goals as goal

pub returns-in-Some-clause-alike : goal.returns-in-Some-clause-alike
returns-in-Some-clause-alike c = wait_alike c.args.rows.now.flat (row_at c.args.rows.now.sets c.in-Some.note.like) (row_at c.args.rows.now.sets c.args.j) c.in-Some.ensures.alike
