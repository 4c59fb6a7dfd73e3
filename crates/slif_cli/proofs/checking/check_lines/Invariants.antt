use Rattle.std.proofs.Common.{◌≡◌, ◌∷◌, map, take}
use Rattle.run_model.specs.Checking.{head_line, row_line}
use Rattle.slif_cli.specs.Stops.{told_row}
use Rattle.slif_cli.proofs.checking.check_lines.Given as goal

abbrev pub invariant-loop-row : goal.invariant-loop-row
invariant-loop-row l = map (λ v. v.items) l.lines.items ≡ head_line l.prepared ∷ map (row_line l.prepared.g1) (take l.row-index (map told_row l.row-items))
