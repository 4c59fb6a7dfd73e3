use Rattle.std.proofs.Common.{take}
use Rattle.lexer.specs.Terminals.{AreTerminalsOf}
use Rattle.lexer.proofs.terminals.list_terminals.Given as goal

abbrev pub invariant-loop-terminal : goal.invariant-loop-terminal
invariant-loop-terminal l = AreTerminalsOf (take l.terminal-index l.sets) l.c l.terminals.items
