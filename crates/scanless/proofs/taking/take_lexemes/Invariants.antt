use Rattle.std.proofs.Common.{◌≡◌, ◌++◌, take}
use Rattle.earley_sets.specs.Recognizer.{earleme_of}
use Rattle.scanless.specs.Taking.{token_edges, Keeps}
use Rattle.scanless.proofs.taking.take_lexemes.Given as goal

abbrev pub invariant-loop-symbol : goal.invariant-loop-symbol
invariant-loop-symbol l = Keeps l.fn.recce l.recce × (l.recce.edges ≡ l.fn.recce.edges ++ token_edges (earleme_of l.fn.recce) (take l.symbol-index l.symbols))
