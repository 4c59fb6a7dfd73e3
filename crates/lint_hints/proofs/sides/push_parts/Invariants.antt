use Rattle.std.proofs.Common.{◌≡◌, ◌++◌, map, take}
use Rattle.lint_hints.proofs.sides.push_parts.Given as goal

abbrev pub invariant-loop-part : goal.invariant-loop-part
invariant-loop-part l = map (λ t. t.now) l.parts.items ≡ map (λ t. t.now) l.fn.parts.items ++ take l.part-index l.some
