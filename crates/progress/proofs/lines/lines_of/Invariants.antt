use Rattle.recognizer_model.specs.Report.{line_of}
use Rattle.progress.proofs.Telling.{AreTold}
use Rattle.progress.proofs.lines.lines_of.Given as goal

abbrev pub invariant-loop-item : goal.invariant-loop-item
invariant-loop-item l = AreTold (line_of l.w l.flat) l.items l.item-index l.lines.items
