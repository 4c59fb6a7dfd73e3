use Rattle.std.proofs.Common.{sym, ◌∙◌}
use Rattle.lexer.proofs.classes.find.Goals as goal

pub returns-then-is_same-clause-row : goal.returns-then-is_same-clause-row
returns-then-is_same-clause-row c = sym c.row.ensures ∙ c.is_same.ensures.0 c.if-is_same.true
