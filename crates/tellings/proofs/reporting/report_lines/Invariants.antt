use Rattle.std.proofs.Common.{◌≡◌, ◌++◌, drop, map}
use Rattle.run_model.specs.Telling.{report_line}
use Rattle.tellings.proofs.reporting.report_lines.Given as goal

abbrev pub invariant-loop-item : goal.invariant-loop-item
invariant-loop-item l = map (λ m. m.items) l.lines.items ++ map (report_line l.w l.fn.at) (drop l.item-index l.items) ≡ map (report_line l.w l.fn.at) l.items
