use Rattle.std.proofs.Common.{take}
use Rattle.lexer.proofs.Done.{MatchedTo}
use Rattle.lexer.proofs.lexer.list_of_several.Given as goal

abbrev pub invariant-loop-candidate : goal.invariant-loop-candidate
invariant-loop-candidate l = MatchedTo l.flat l.done (take l.candidate-index l.candidates) l.matched.items
