use Rattle.std.proofs.Common.{◌≡◌, ◌+◌, ◌==◌, not, drop}
use Rattle.std.specs.List.{prefix_len}
use Rattle.slif_lint.proofs.telling.line_end.Given as goal

abbrev pub invariant-loop-i : goal.invariant-loop-i
invariant-loop-i l = l.i + prefix_len (λ c. not (c == 10)) (drop l.i l.chars) ≡ l.at + prefix_len (λ c. not (c == 10)) (drop l.at l.chars)
