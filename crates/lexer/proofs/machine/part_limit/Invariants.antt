use Rattle.std.proofs.Common.{◌≡◌, length}
use Rattle.lexer.proofs.machine.part_limit.Given as goal

abbrev pub invariant-loop-rule : goal.invariant-loop-rule
invariant-loop-rule l = l.rule-end ≡ length l.flat.rules
