use Rattle.std.proofs.Common.{◌≡◌, List}
use Rattle.grammar_model.specs.Steps.{Step}
use Rattle.tree_iter.specs.Walk.{StandsBehind}
use Rattle.tree_iter.proofs.walk.Walk.go_back.Given as goal
use Rattle.std.specs.Prelude.{vec_len}

abbrev pub invariant-back : goal.invariant-back
invariant-back g l = record {
  forest : l.self.forest ≡ l.initial.self.forest;
  goes : (rest : List (List Step)) → StandsBehind l.initial.self rest → StandsBehind l.self rest;
  none : l.steps ≡ l.initial.steps;
}

abbrev pub decreases-back : goal.decreases-back
decreases-back g l = vec_len l.self.choices
