use Rattle.std.proofs.Common.{◌≡◌, ◌≤◌, ◌+◌, ◌-◌, length, drop, false}
use Rattle.language_model.specs.Layout.{layout_len}
use Rattle.dsl_tokens.proofs.runs.layout_len.Given as goal

abbrev pub invariant-loop-len : goal.invariant-loop-len
invariant-loop-len l = (l.len ≤ length l.text) × (l.len + layout_len (drop l.len l.text) l.in_comment ≡ layout_len l.text false)

abbrev pub decreases-loop-len : goal.decreases-loop-len
decreases-loop-len l = length l.text - l.len
