use Rattle.std.proofs.Common.{◌≡◌, drop}
use Rattle.std.specs.List.{list_all}
use Rattle.lint_hints.specs.Nullable.{spans_part}
use Rattle.lint_hints.specs.Found.{causes_of, knows}
use Rattle.lint_hints.proofs.nullable.Nullable.spans_parts.Given as goal

abbrev pub invariant-loop-part : goal.invariant-loop-part
invariant-loop-part l = list_all (spans_part (knows (causes_of l.self))) (drop l.part-index l.parts) ≡ list_all (spans_part (knows (causes_of l.self))) l.parts
