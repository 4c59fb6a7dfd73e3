use Rattle.std.proofs.Common.{[], map, take}
use Rattle.grammar_core.specs.Steps.{step_of}
use Rattle.script_trees.specs.Stack.{after_steps, Holds}
use Rattle.script_trees.proofs.lines.TreeLines.put_line.Given as goal

abbrev pub invariant-loop-step : goal.invariant-loop-step
invariant-loop-step l = Holds l.self.pool l.self.held.items (after_steps l.w [] (map step_of (take l.step-index l.steps)))
