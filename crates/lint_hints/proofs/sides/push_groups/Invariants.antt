use Rattle.std.proofs.Common.{◌≡◌, ◌++◌, map, take}
use Rattle.std.specs.List.{flat_map}
use Rattle.language_model.specs.Building.{parts_of}
use Rattle.lint_hints.proofs.sides.push_groups.Given as goal

abbrev pub invariant-loop-group : goal.invariant-loop-group
invariant-loop-group l = map (λ t. t.now) l.parts.items ≡ map (λ t. t.now) l.fn.parts.items ++ flat_map (flat_map parts_of) (map (λ g. g.items) (take l.group-index l.groups))
