use Rattle.std.proofs.Common.{◌≡◌, map, take}
use Rattle.grammar_core.specs.Steps.{step_of}
use Rattle.c_handles.specs.Steps.{laid}
use Rattle.c_handles.proofs.steps.laid_steps.Given as goal

abbrev pub invariant-loop-step : goal.invariant-loop-step
invariant-loop-step l = l.all.items ≡ map (laid l.reading) (map step_of (take l.step-index l.steps))
