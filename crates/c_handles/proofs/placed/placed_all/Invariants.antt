use Rattle.std.proofs.Common.{◌≡◌, map, take}
use Rattle.grammar_core.specs.Steps.{step_of}
use Rattle.c_handles.specs.Placed.{placed}
use Rattle.c_handles.proofs.placed.placed_all.Given as goal

abbrev pub invariant-loop-steps : goal.invariant-loop-steps
invariant-loop-steps l = map (λ steps. steps.items) l.all.items ≡ map (λ steps. map placed (map step_of steps.items)) (take l.steps-index l.derivations)
