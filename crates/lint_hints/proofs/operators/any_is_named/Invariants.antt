use Rattle.std.proofs.Common.{◌≡◌, drop}
use Rattle.std.specs.List.{list_any}
use Rattle.lint_hints.specs.Hints.{is_named}
use Rattle.lint_hints.proofs.operators.any_is_named.Given as goal

abbrev pub invariant-loop-part : goal.invariant-loop-part
invariant-loop-part l = list_any (is_named l.left) (drop l.part-index l.parts) ≡ list_any (is_named l.left) l.parts
