use Rattle.std.proofs.Common.{drop, map, length}
use Rattle.grammar_core.specs.Steps.{step_of}
use Rattle.valuator.specs.Play.{CanTellAll, tokens_of}
use Rattle.tree_fold.proofs.Holding.{Holds}
use Rattle.tree_fold.proofs.fold.fold_steps.Given as goal

abbrev pub invariant-loop-step : goal.invariant-loop-step
invariant-loop-step g l = record {
  holds : Holds g.S.Semantics.token_gives g.S.Semantics.nulled_gives g.S.Semantics.rule_gives l.w (tokens_of l.chars l.spans) l.steps l.step-index l.initial.semantics l.held.items l.semantics;
  can : CanTellAll l.w (length l.spans) (length l.held.items) (map step_of (drop l.step-index l.steps));
}
