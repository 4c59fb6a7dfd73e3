use Rattle.grammar_check.specs.Linked.{HasPairs, IsLinkTo}
use Rattle.grammar_check.proofs.links.links_of.Given as goal

abbrev pub invariant-loop-i : goal.invariant-loop-i
invariant-loop-i l = HasPairs l.initial.links l.links (IsLinkTo l.w l.slots.bases.now l.i)
