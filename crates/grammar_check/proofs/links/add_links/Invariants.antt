use Rattle.grammar_check.specs.Linked.{HasPairs, IsLinkOf}
use Rattle.grammar_check.proofs.links.add_links.Given as goal

abbrev pub invariant-loop-k : goal.invariant-loop-k
invariant-loop-k l = HasPairs l.initial.rows l.rows (IsLinkOf l.w l.slots.bases.now l.i l.k)
