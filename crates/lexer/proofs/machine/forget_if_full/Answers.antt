use Rattle.lexer.proofs.Machines.{empty_machine}
use Rattle.lexer.proofs.machine.forget_if_full.Goals as goal

pub returns-then-is_full-clause-is : goal.returns-then-is_full-clause-is
returns-then-is_full-clause-is c = empty_machine _ _ _ _ _ _ _ c.clear-then-is_full-4.ensures c.clear-then-is_full-3.ensures c.clear-then-is_full-2.ensures.items c.clear-then-is_full.ensures.items c.clear.ensures
