use Rattle.std.proofs.Common.{map, take, Ok}
use Rattle.recognizer_model.specs.declared.flat.FlatSymbol.TheVariants.{Sequence}
use Rattle.flat_model.specs.Flatten.{Decided}
use Rattle.flat_rules.specs.Added.{Adds, from_symbols}
use Rattle.flat_rules.proofs.flattening.push_lists.Given as goal

abbrev pub invariant-loop-i : goal.invariant-loop-i
invariant-loop-i l = (d : Decided l.c) → Adds {T = Unit {0}} l.initial.rules.items l.rules.items (from_symbols l.c d l.symbols (take l.i-index (map Sequence l.lists))) (Ok tt)
