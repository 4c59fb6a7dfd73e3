use Rattle.std.proofs.Common.{[], length, drop, sym, ap, ◌∙◌}
use Rattle.grammar_core.specs.Steps.{step_of}
use Rattle.forest_laws.specs.Guide.{all_ends, ends_after, top_of}
use Rattle.tree_iter.proofs.LeadRows.{top_after}
use Rattle.tree_iter.proofs.leads.row_of.Goals as goal

pub below_newest-requires-clause-ends : goal.below_newest-requires-clause-ends
below_newest-requires-clause-ends c = let (steps, h) = c.requires.rows in (all_ends [] 0 steps, h.ends, h.all ∙ sym (top_after steps))

pub returns-in-Token-clause-below : goal.returns-in-Token-clause-below
returns-in-Token-clause-below c = λ steps h. h.all ∙ sym (top_after steps) ∙ ap (λ s. top_of (drop 1 (ends_after (all_ends [] 0 steps) (length steps) (step_of s)))) (sym c.in-Token.is)

pub returns-in-Nulled-clause-below : goal.returns-in-Nulled-clause-below
returns-in-Nulled-clause-below c = λ steps h. h.all ∙ sym (top_after steps) ∙ ap (λ s. top_of (drop 1 (ends_after (all_ends [] 0 steps) (length steps) (step_of s)))) (sym c.in-Nulled.is)

pub returns-in-Rule-clause-below : goal.returns-in-Rule-clause-below
returns-in-Rule-clause-below c = λ steps h.
    c.below_newest.ensures (all_ends [] 0 steps) h.ends (h.all ∙ sym (top_after steps)) ∙ ap (λ s. top_of (drop 1 (ends_after (all_ends [] 0 steps) (length steps) (step_of s)))) (sym c.in-Rule.is)
