use Rattle.std.proofs.Common.{◌≡◌, ◌++◌, take, string_bytes}
use Rattle.std.specs.List.{flat_map}
use Rattle.slif_lint.specs.Told.{told_line}
use Rattle.slif_lint.proofs.telling.push_lines.Given as goal

abbrev pub invariant-loop-hint : goal.invariant-loop-hint
invariant-loop-hint l = string_bytes l.out ≡ string_bytes l.fn.out ++ flat_map (told_line l.chars) (take l.hint-index l.hints)
