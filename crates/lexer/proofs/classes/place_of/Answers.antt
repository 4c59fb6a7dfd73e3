use Rattle.std.proofs.Common.{◌≡◌, ◌<◌, length, subst, sym}
use Rattle.jagged.specs.Rows.{row_at}
use Rattle.lexer.proofs.ClassLists.{row_last}
use Rattle.lexer.proofs.classes.place_of.Goals as goal

pub returns-clause-there : goal.returns-clause-there
returns-clause-there c = subst (λ k. k < length c.push.new.self) (sym c.len-last.ensures) (row_last c.args.rows.now c.push.new.self c.args.terminals.now c.in_ok-push.ensures.ok).0

pub returns-clause-row : goal.returns-clause-row
returns-clause-row c = subst (λ k. row_at c.push.new.self k ≡ c.args.terminals.now) (sym c.len-last.ensures) (row_last c.args.rows.now c.push.new.self c.args.terminals.now c.in_ok-push.ensures.ok).1
