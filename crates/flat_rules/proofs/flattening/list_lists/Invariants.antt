use Rattle.std.proofs.Common.{◌≡◌, ◌++◌, map, take, false}
use Rattle.recognizer_model.specs.declared.flat.FlatSymbol.TheVariants.{Sequence}
use Rattle.flat_rules.proofs.flattening.list_lists.Given as goal

abbrev pub invariant-loop-i : goal.invariant-loop-i
invariant-loop-i l = record {
  list : l.list.items ≡ l.initial.list.items ++ map Sequence (take l.i-index l.lists);
  marks : l.marks.items ≡ l.initial.marks.items ++ map (λ i. false) (take l.i-index l.lists);
}
