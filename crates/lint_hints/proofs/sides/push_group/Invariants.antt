use Rattle.std.proofs.Common.{◌≡◌, ◌++◌, map, take}
use Rattle.std.specs.List.{flat_map}
use Rattle.language_model.specs.Building.{parts_of}
use Rattle.lint_hints.proofs.sides.push_group.Given as goal

abbrev pub invariant-loop-alternative : goal.invariant-loop-alternative
invariant-loop-alternative l = map (λ t. t.now) l.parts.items ≡ map (λ t. t.now) l.fn.parts.items ++ flat_map parts_of (take l.alternative-index l.group)
