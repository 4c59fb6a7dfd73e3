use Rattle.std.proofs.Common.{◌≡◌, ◌+◌, map, take}
use Rattle.grammar_check.proofs.cycles.put_shifted.Given as goal

abbrev pub invariant-loop-h : goal.invariant-loop-h
invariant-loop-h l = l.body.items ≡ map (λ h. l.by + h) (take l.h-index l.row)
