use Rattle.std.proofs.Common.{◌≡◌, ◌≤◌, ◌⊎◌}
use Rattle.threads.proofs.Closing.{Listed}
use Rattle.threads.proofs.close.list_rules.Given as goal

abbrev pub invariant-loop-rule : goal.invariant-loop-rule
invariant-loop-rule l = Listed l.initial.next.items l.first l.next.items l.rule × ((l.rule ≤ l.end) ⊎ (l.rule ≡ l.first))
