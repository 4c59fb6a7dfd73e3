use Rattle.std.proofs.Common.{◌≡◌, drop}
use Rattle.lint_hints.specs.Found.{causes_of, found_group}
use Rattle.lint_hints.proofs.nullable.Nullable.cause_of_group.Given as goal

abbrev pub invariant-loop-alternative : goal.invariant-loop-alternative
invariant-loop-alternative l = found_group (causes_of l.self) l.left (drop l.alternative-index l.group) ≡ found_group (causes_of l.self) l.left l.group
