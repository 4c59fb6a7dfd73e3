use Rattle.std.proofs.Common.{◌≡◌, false, List, map}
use Rattle.grammar_model.specs.Trees.{Tree}
use Rattle.tree_iter.specs.Iteration.{AreGiven}
use Rattle.c_handles.proofs.Gathering.{AreKept}
use Rattle.c_handles.proofs.derivations.gather.Given as goal

abbrev pub invariant-kept : goal.invariant-kept
invariant-kept l = record {
  kept : (given : List Tree) → AreGiven l.fn.derivations.iteration given →
      AreKept l.reading l.shown given l.derivations.iteration l.counter (map (λ steps. steps.items) l.parse.derivations.items) (map (λ line. line.items) l.parse.lines.items);
  none : l.parse.more ≡ false;
  read : l.derivations.read ≡ l.reading;
  forest : l.derivations.iteration.forest ≡ l.fn.derivations.iteration.forest;
}
