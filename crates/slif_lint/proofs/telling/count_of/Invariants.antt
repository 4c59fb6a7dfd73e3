use Rattle.std.proofs.Common.{◌≡◌, ◌≤◌, take}
use Rattle.std.specs.List.{count_by}
use Rattle.slif_lint.specs.Told.{is_told}
use Rattle.slif_lint.proofs.telling.count_of.Given as goal

abbrev pub invariant-loop-hint : goal.invariant-loop-hint
invariant-loop-hint l = (l.count ≤ l.hint-index) × (l.count ≡ count_by (is_told l.chars) (take l.hint-index l.hints))
