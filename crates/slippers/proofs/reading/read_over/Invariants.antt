use Rattle.std.proofs.Common.{◌≡◌, ℕ, ◌≤◌, ◌+◌, ◌*◌, length}
use Rattle.earley_sets.specs.Counted.{CountsFrom}
use Rattle.slippers.specs.Stock.{given_at}
use Rattle.slippers.specs.Supplied.{IsSupplied}
use Rattle.slippers.proofs.reading.read_over.Given as goal

abbrev pub invariant-loop : goal.invariant-loop
invariant-loop g l = record {
  grammar : l.reader.grammar ≡ l.initial.reader.grammar;
  names : ((goal.Supplier-dyn g (l.supplier.vtable, l.supplier.value)).stock l.supplier.value).names ≡ ((goal.Supplier-dyn g (l.initial.supplier.vtable, l.initial.supplier.value)).stock l.initial.supplier.value).names;
  supplied : IsSupplied l.chars l.reader ((goal.Supplier-dyn g (l.supplier.vtable, l.supplier.value)).stock l.supplier.value);
  turns : l.counter ≤ l.reader.at * 8 + length (given_at ((goal.Supplier-dyn g (l.supplier.vtable, l.supplier.value)).stock l.supplier.value) l.reader.at);
  counted : (before : ℕ) → CountsFrom l.initial.reader.recce before l.initial.steps → CountsFrom l.reader.recce before l.steps;
}
