use Rattle.std.proofs.Common.{◌≡◌, List, length}
use Rattle.grammar_model.specs.Trees.{Tree}
use Rattle.tree_iter.specs.Iteration.{AreGiven}
use Rattle.c_handles.proofs.derivations.pass.Given as goal

abbrev pub invariant-passed : goal.invariant-passed
invariant-passed l = record {
  given : (given : List Tree) × AreGiven l.derivations.iteration given × (length given ≡ l.counter);
  read : l.derivations.read ≡ l.fn.derivations.read;
  forest : l.derivations.iteration.forest ≡ l.fn.derivations.iteration.forest;
}
