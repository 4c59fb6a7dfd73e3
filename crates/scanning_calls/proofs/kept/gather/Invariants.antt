use Rattle.std.proofs.Common.{◌≡◌, List, map}
use Rattle.grammar_model.specs.Trees.{Tree}
use Rattle.grammar_core.specs.Steps.{step_of}
use Rattle.tree_iter.specs.Iteration.{AreGiven}
use Rattle.scanning_calls.proofs.Gathering.{AreKept}
use Rattle.scanning_calls.proofs.kept.gather.Given as goal

abbrev pub invariant-kept : goal.invariant-kept
invariant-kept g l = record {
  kept : (given : List Tree) → AreGiven l.fn.iter given → AreKept given l.iter l.counter (map (λ steps. map step_of steps.items) l.kept.items);
  forest : l.iter.forest ≡ l.fn.iter.forest;
}
