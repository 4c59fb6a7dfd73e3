use Rattle.std.proofs.Common.{List}
use Rattle.recognizer_model.specs.declared.thread.Label.{Label}
use Rattle.recognizer_model.specs.declared.thread.Thread.{Thread}
use Rattle.recognizer_model.specs.Threads.{Waiting}
use Rattle.threads.specs.Steps.{FoldsIn}
use Rattle.threads.proofs.fold.fold_ordered.Given as goal

abbrev pub invariant-loop : goal.invariant-loop
invariant-loop l = (parts : List (List Thread)) (label : Label) → FoldsIn l.flat parts (Waiting l.flat l.row) l.goal label → FoldsIn l.flat parts (Waiting l.flat l.row) l.symbol label
