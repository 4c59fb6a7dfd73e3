use Rattle.std.proofs.Common.{◌≡◌, ◌++◌, map, take}
use Rattle.std.specs.List.{flat_map}
use Rattle.lint_hints.specs.Hints.{hint_of, spelling}
use Rattle.lint_hints.proofs.spellings.look_at_parts.Given as goal

abbrev pub invariant-loop-part : goal.invariant-loop-part
invariant-loop-part l = map hint_of l.hints.items ≡ map hint_of l.fn.hints.items ++ flat_map spelling (take l.part-index l.parts)
