use Rattle.slot_analysis.specs.Slots.{HasLevels}
use Rattle.slot_analysis.proofs.clauses.push_levels.Given as goal

abbrev pub invariant-loop-s : goal.invariant-loop-s
invariant-loop-s l = HasLevels l.bases l.s l.initial.clauses l.clauses
