use Rattle.std.proofs.Common.{◌≡◌, ◌+◌}
use Rattle.tree_iter.specs.Leads.{Leads}
use Rattle.tree_iter.specs.Walk.{GoesPast}
use Rattle.tree_iter.proofs.Further.{to_go}
use Rattle.tree_iter.proofs.jump.Guide.go_on.Given as goal

abbrev pub invariant-goals : goal.invariant-goals
invariant-goals g l = record {
  forest : l.walk.forest ≡ l.initial.walk.forest;
  past : GoesPast l.initial.walk l.walk;
  looks : l.steps + l.self.looks ≡ l.initial.steps + l.initial.self.looks;
  to : l.self.to ≡ l.initial.self.to;
  leads : Leads l.initial.self l.initial.walk → Leads l.self l.walk;
}

abbrev pub decreases-goals : goal.decreases-goals
decreases-goals g l = to_go l.walk
