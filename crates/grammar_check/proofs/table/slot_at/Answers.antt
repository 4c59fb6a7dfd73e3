use Rattle.std.proofs.Common.{arith}
use Rattle.grammar_check.proofs.SlotCycles.{homed}
use Rattle.grammar_check.proofs.table.slot_at.Goals as goal

pub bounds-bases-symbol : goal.bounds-bases-symbol
bounds-bases-symbol c = let h = homed c.args.w.now c.known.ensures c.args.bases.now c.requires.numbering c.args.homes.now c.requires.homes c.args.x c.requires.known in omega (arith, h.0, c.requires.numbering.sized)

pub overflow_sub-result : goal.overflow_sub-result
overflow_sub-result c = (homed c.args.w.now c.known.ensures c.args.bases.now c.requires.numbering c.args.homes.now c.requires.homes c.args.x c.requires.known).1

pub returns-clause-numbered : goal.returns-clause-numbered
returns-clause-numbered c = let h = homed c.args.w.now c.known.ensures c.args.bases.now c.requires.numbering c.args.homes.now c.requires.homes c.args.x c.requires.known in (h.0, omega (arith, h.1, h.2))

pub returns-clause-same : goal.returns-clause-same
returns-clause-same c = let h = homed c.args.w.now c.known.ensures c.args.bases.now c.requires.numbering c.args.homes.now c.requires.homes c.args.x c.requires.known in omega (arith, h.1)
