use Rattle.std.proofs.Common.{◌≡◌, ◌≤◌, ◌∷◌, [], List}
use Rattle.grammar_model.specs.Trees.{Tree}
use Rattle.grammar_model.specs.declared.Show.{Show}
use Rattle.reading_model.specs.Reading.{Piece}
use Rattle.valuator.specs.Told.{states}
use Rattle.tree_iter.specs.Iteration.{AreGiven}
use Rattle.value_lines.specs.Lines.{IsForestOf}
use Rattle.value_lines.proofs.Texts.{HasWritten}
use Rattle.value_lines.proofs.writing.write_lines.Given as goal

abbrev pub invariant-loop-k : goal.invariant-loop-k
invariant-loop-k g l = record {
  player : l.player ≡ l.fn.player;
  forest : l.iter.forest ≡ l.fn.iter.forest;
  tellers : states l.tellers.items (λ t. (goal.Teller-dyn g (t.vtable, t.value)).shows t.value) (λ t. (goal.Teller-dyn g (t.vtable, t.value)).held t.value) ≡ states l.fn.tellers.items (λ t. (goal.Teller-dyn g (t.vtable, t.value)).shows t.value) (λ t. (goal.Teller-dyn g (t.vtable, t.value)).held t.value);
  written : (show : Show) (pieces : List Piece) (before : List Tree) → states l.fn.tellers.items (λ t. (goal.Teller-dyn g (t.vtable, t.value)).shows t.value) (λ t. (goal.Teller-dyn g (t.vtable, t.value)).held t.value) ≡ (show, []) ∷ [] →
      IsForestOf l.prepared l.fn.player.chars l.fn.player.spans l.fn.iter.forest pieces → AreGiven l.fn.iter before →
      HasWritten l.prepared show l.fn.player.chars pieces before l.iter l._k (g.O.Sink.contents l.fn.out) (g.O.Sink.contents l.out) l.fn.steps l.steps;
  later : g.O.Sink.fault_count l.fn.out ≤ g.O.Sink.fault_count l.out;
}
