use Rattle.std.proofs.Common.{◌≡◌, ◌++◌, map, take}
use Rattle.std.specs.List.{flat_map}
use Rattle.lint_hints.specs.Uses.{use_of}
use Rattle.lint_hints.proofs.uses.push_uses_in.Given as goal

abbrev pub invariant-loop-part : goal.invariant-loop-part
invariant-loop-part l = map (λ n. n.now) l.names.items ≡ map (λ n. n.now) l.fn.names.items ++ flat_map (use_of l.left) (map (λ t. t.now) (take l.part-index l.parts))
