use Rattle.std.proofs.Common.{◌≡◌, ◌++◌, ◌∷◌, [], drop, map}
use Rattle.grammar_model.specs.Values.{name_of}
use Rattle.tellings.proofs.expecting.name_lines.Given as goal

abbrev pub invariant-loop-symbol : goal.invariant-loop-symbol
invariant-loop-symbol l = map (λ m. m.items) l.lines.items ++ map (λ s. name_of l.w s ++ 10 ∷ []) (drop l.symbol-index l.symbols) ≡ map (λ s. name_of l.w s ++ 10 ∷ []) l.symbols
