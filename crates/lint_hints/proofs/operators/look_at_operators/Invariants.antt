use Rattle.std.proofs.Common.{◌≡◌, ◌++◌, map, take}
use Rattle.std.specs.List.{flat_map}
use Rattle.lint_hints.specs.Hints.{hint_of, operator}
use Rattle.lint_hints.proofs.operators.look_at_operators.Given as goal

abbrev pub invariant-loop-alternative : goal.invariant-loop-alternative
invariant-loop-alternative l = map hint_of l.hints.items ≡ map hint_of l.fn.hints.items ++ flat_map (operator l.left) (take l.alternative-index l.group)
