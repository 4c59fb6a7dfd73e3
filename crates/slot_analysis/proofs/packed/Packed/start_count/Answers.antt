use Rattle.std.proofs.Common.{subst}
use Rattle.grammar_core.specs.Written.{IsWritten}
use Rattle.slot_analysis.proofs.Transfer.{packed_written}
use Rattle.slot_analysis.proofs.packed.Packed.start_count.Goals as goal

pub returns-clause-sound : goal.returns-clause-sound
returns-clause-sound c = subst IsWritten c.self.view_is (packed_written c.self.inside.written.now c.self.inside.levels.now c.start_count.ensures.sound c.self.invariant)
