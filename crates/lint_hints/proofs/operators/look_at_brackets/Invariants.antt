use Rattle.std.proofs.Common.{◌≡◌, ◌++◌, map, take}
use Rattle.std.specs.List.{flat_map}
use Rattle.lint_hints.specs.Hints.{hint_of, group_brackets}
use Rattle.lint_hints.proofs.operators.look_at_brackets.Given as goal

abbrev pub invariant-loop-group : goal.invariant-loop-group
invariant-loop-group l = map hint_of l.hints.items ≡ map hint_of l.fn.hints.items ++ flat_map (group_brackets l.left) (map (λ g. g.items) (take l.group-index l.groups))
