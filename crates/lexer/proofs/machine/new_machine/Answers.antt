use Rattle.lexer.proofs.Machines.{empty_machine}
use Rattle.lexer.proofs.machine.new_machine.Goals as goal

pub returns-clause-is : goal.returns-clause-is
returns-clause-is c = empty_machine _ _ _ _ _ _ _ c.new-2.ensures c.new-3.ensures c.new-4.ensures.items c.new-5.ensures.items c.new-6.ensures
