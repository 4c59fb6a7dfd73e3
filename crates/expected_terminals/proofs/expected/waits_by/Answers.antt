use Rattle.std.proofs.Common.{subst}
use Rattle.std.proofs.lemmas.Bool.{eqb-true}
use Rattle.item_rows.specs.Rows.{row_at, shared_at}
use Rattle.expected_terminals.specs.Expected.{WaitsByList}
use Rattle.expected_terminals.proofs.expected.waits_by.Goals as goal

pub returns-in-Some : goal.returns-in-Some
returns-in-Some c t = subst (λ k. WaitsByList c.args.rows.now.flat (row_at c.args.rows.now.sets c.args.j) (shared_at c.args.rows.now.shared k) c.args.j) (eqb-true c.in-Some.k c.args.list t) c.in-Some.ensures.alone
