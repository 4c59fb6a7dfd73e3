use Rattle.std.proofs.Common.{map, take, Ok}
use Rattle.flat_model.specs.Flatten.{Decided, symbol_for}
use Rattle.flat_rules.specs.Added.{Adds, from_symbols}
use Rattle.flat_rules.proofs.flattening.push_slots.Given as goal

abbrev pub invariant-loop-x : goal.invariant-loop-x
invariant-loop-x l = (d : Decided l.c) → Adds {T = Unit {0}} l.initial.rules.items l.rules.items (from_symbols l.c d l.symbols (take l.x (map (symbol_for l.c d) l.symbols.slots))) (Ok tt)
