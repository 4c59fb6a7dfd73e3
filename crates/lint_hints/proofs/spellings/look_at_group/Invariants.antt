use Rattle.std.proofs.Common.{◌≡◌, ◌++◌, map, take}
use Rattle.std.specs.List.{flat_map}
use Rattle.lint_hints.specs.Hints.{hint_of, alternative_spellings}
use Rattle.lint_hints.proofs.spellings.look_at_group.Given as goal

abbrev pub invariant-loop-alternative : goal.invariant-loop-alternative
invariant-loop-alternative l = map hint_of l.hints.items ≡ map hint_of l.fn.hints.items ++ flat_map alternative_spellings (take l.alternative-index l.group)
