use Rattle.std.proofs.Common.{◌≡◌}
use Rattle.grammar_check.proofs.Naming.{named_to}
use Rattle.grammar_check.proofs.message.names_text.Given as goal

abbrev pub invariant-loop-k : goal.invariant-loop-k
invariant-loop-k l = l.text.items ≡ named_to l.w l.cycle l.k
