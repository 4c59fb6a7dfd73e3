use Rattle.std.proofs.Common.{◌≡◌}
use Rattle.tree_iter.specs.Walk.{Goes, Looks}
use Rattle.tree_iter.proofs.Further.{to_go}
use Rattle.tree_iter.proofs.walk.Walk.go_on.Given as goal

abbrev pub invariant-walk : goal.invariant-walk
invariant-walk g l = record {
  forest : l.self.forest ≡ l.initial.self.forest;
  goes : Goes l.initial.self l.self;
  looks : Looks l.initial.self l.self l.initial.steps l.steps;
}

abbrev pub decreases-walk : goal.decreases-walk
decreases-walk g l = to_go l.self
