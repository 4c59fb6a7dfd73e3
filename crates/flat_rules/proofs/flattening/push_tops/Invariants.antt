use Rattle.std.proofs.Common.{map, take, length, Ok}
use Rattle.grammar_model.specs.Simple.{numbers}
use Rattle.recognizer_model.specs.declared.flat.FlatSymbol.TheVariants.{Top}
use Rattle.flat_model.specs.Flatten.{Decided}
use Rattle.flat_rules.specs.Added.{Adds, from_symbols}
use Rattle.flat_rules.proofs.flattening.push_tops.Given as goal

abbrev pub invariant-loop-k : goal.invariant-loop-k
invariant-loop-k l = (d : Decided l.w) → Adds {T = Unit {0}} l.initial.rules.items l.rules.items (from_symbols l.w d l.symbols (take l.k (map Top (numbers (length l.w.starts))))) (Ok tt)
