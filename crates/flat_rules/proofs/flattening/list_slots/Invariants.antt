use Rattle.std.proofs.Common.{◌≡◌, ◌++◌, map, take}
use Rattle.flat_model.specs.Flatten.{Decided, symbol_for, is_marked}
use Rattle.flat_rules.proofs.flattening.list_slots.Given as goal

abbrev pub invariant-loop-x : goal.invariant-loop-x
invariant-loop-x l = record {
  list : (d : Decided l.c) → l.list.items ≡ l.initial.list.items ++ map (symbol_for l.c d) (take l.x l.symbols.slots);
  marks : (d : Decided l.c) → l.marks.items ≡ l.initial.marks.items ++ map (λ s. is_marked l.c d (symbol_for l.c d s)) (take l.x l.symbols.slots);
}
