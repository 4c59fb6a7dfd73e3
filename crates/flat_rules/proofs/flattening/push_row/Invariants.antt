use Rattle.std.proofs.Common.{take, Ok}
use Rattle.flat_model.specs.Flatten.{Decided}
use Rattle.flat_rules.specs.Tables.{told_slot}
use Rattle.flat_rules.specs.Added.{Adds, from_rules}
use Rattle.flat_rules.proofs.flattening.push_row.Given as goal

abbrev pub invariant-loop-i : goal.invariant-loop-i
invariant-loop-i l = (d : Decided l.c) → Adds {T = Unit {0}} l.initial.rules.items l.rules.items (from_rules l.c d l.symbols (told_slot l.slot) (take l.i-index l.row)) (Ok tt)
