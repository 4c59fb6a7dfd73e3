use Rattle.std.proofs.Common.{◌≤◌, ◌-◌, length}
use Rattle.language_model.specs.Tokens.{LeadTo}
use Rattle.dsl_tokens.proofs.reading.tokens.Given as goal

abbrev pub invariant-loop-at : goal.invariant-loop-at
invariant-loop-at l = (l.at ≤ length l.chars) × LeadTo l.chars 0 l.items.items l.at

abbrev pub decreases-loop-at : goal.decreases-loop-at
decreases-loop-at l = length l.chars - l.at
