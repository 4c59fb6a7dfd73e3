use Rattle.std.proofs.Common.{subst}
use Rattle.grammar_core.specs.Written.{IsWritten}
use Rattle.slot_analysis.proofs.Transfer.{packed_written}
use Rattle.slot_analysis.proofs.packed.Packed.known.Goals as goal

pub returns : goal.returns
returns c = subst IsWritten c.self.view_is (packed_written c.self.inside.written.now c.self.inside.levels.now c.known.ensures c.self.invariant)
