use Rattle.std.proofs.Common.{◌≡◌, ◌++◌, drop, codes}
use Rattle.std.specs.List.{flat_map}
use Rattle.grammar_model.specs.Values.{name_of}
use Rattle.text_reading.proofs.inputs.append_others.Given as goal

abbrev pub invariant-loop-symbol : goal.invariant-loop-symbol
invariant-loop-symbol l = l.text.items ++ flat_map (λ s. codes ", " ++ name_of l.w s) (drop l.symbol-index l.symbols) ≡ l.fn.text.items ++ flat_map (λ s. codes ", " ++ name_of l.w s) l.symbols
