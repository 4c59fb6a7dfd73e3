use Rattle.std.proofs.Common.{take}
use Rattle.std.specs.Prelude.{option_copied}
use Rattle.scanless.specs.Pieces.{IsHighestOf, IsFit}
use Rattle.scanless.proofs.kept.highest.Given as goal

abbrev pub invariant-loop-start : goal.invariant-loop-start
invariant-loop-start l = IsHighestOf (IsFit l.recce (take l.start-index l.matched)) l.rows (option_copied l.highest)
