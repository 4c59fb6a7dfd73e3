use Rattle.std.proofs.Common.{◌<◌, ◌≤◌, ◌+◌}
use Rattle.grammar_check.specs.Links.{Gains}
use Rattle.grammar_check.proofs.layers.descend.Given as goal

abbrev pub invariant-loop-k : goal.invariant-loop-k
invariant-loop-k l = Gains l.initial.found l.found (λ x. (l.h < x + l.k) × (x ≤ l.h))
