use Rattle.tree_text.proofs.Escapes.{never_empty, never_other}
use Rattle.tree_text.proofs.characters.behind.Goals as goal

pub returns-in_err-first : goal.returns-in_err-first
returns-in_err-first c = rw c.from_residual.ensures (never_empty _ _ c.in_err-first.ensures)

pub returns-else-first-c : goal.returns-else-first-c
returns-else-first-c c = never_other _ _ _ _ c.in_ok-first.ensures c.if-first-c.false
