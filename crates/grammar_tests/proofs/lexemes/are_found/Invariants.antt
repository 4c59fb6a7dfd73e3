use Rattle.std.proofs.Common.{◌≡◌, length}
use Rattle.grammar_tests.proofs.lexemes.are_found.Given as goal

abbrev pub invariant-loop-case : goal.invariant-loop-case
invariant-loop-case l = l.starts ≡ length l.lexer.flat.tops
