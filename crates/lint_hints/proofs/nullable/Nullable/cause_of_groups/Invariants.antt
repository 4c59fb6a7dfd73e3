use Rattle.std.proofs.Common.{◌≡◌, drop, map}
use Rattle.lint_hints.specs.Found.{causes_of, found_groups}
use Rattle.lint_hints.proofs.nullable.Nullable.cause_of_groups.Given as goal

abbrev pub invariant-loop-group : goal.invariant-loop-group
invariant-loop-group l = found_groups (causes_of l.self) l.left (map (λ g. g.items) (drop l.group-index l.groups)) ≡ found_groups (causes_of l.self) l.left (map (λ g. g.items) l.groups)
