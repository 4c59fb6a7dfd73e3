use Rattle.lexer.specs.Machines.{form_of}
use Rattle.lexer.proofs.ReadOn.{IsReading}
use Rattle.lexer.proofs.lexer.read.Given as goal

abbrev pub invariant-loop-place : goal.invariant-loop-place
invariant-loop-place l = IsReading (form_of l.initial.machine) l.chars l.at l.candidates l.initial.machine l.machine l.state l.place l.best.state l.best.length
