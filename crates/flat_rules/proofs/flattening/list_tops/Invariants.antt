use Rattle.std.proofs.Common.{◌≡◌, ◌++◌, map}
use Rattle.grammar_model.specs.Simple.{numbers}
use Rattle.recognizer_model.specs.declared.flat.FlatSymbol.TheVariants.{Top}
use Rattle.flat_model.specs.Flatten.{Decided, is_marked}
use Rattle.flat_rules.proofs.flattening.list_tops.Given as goal

abbrev pub invariant-loop-k : goal.invariant-loop-k
invariant-loop-k l = record {
  list : l.list.items ≡ l.initial.list.items ++ map Top (numbers l.k);
  marks : (d : Decided l.c) → l.marks.items ≡ l.initial.marks.items ++ map (λ k. is_marked l.c d (Top k)) (numbers l.k);
}
