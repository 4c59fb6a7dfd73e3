use Rattle.std.proofs.Common.{ℕ, ◌<◌, slice_index}
use Rattle.grammar_check.specs.Links.{Tied, IsDown, Gains}
use Rattle.grammar_check.proofs.layers.gather.Given as goal

abbrev pub invariant-loop-h : goal.invariant-loop-h
invariant-loop-h l = record {
  gains : Gains l.initial.found l.found (λ x. (i : ℕ) × (i < l.h-index) × Tied l.floors x (slice_index l.row i));
  down : IsDown l.floors l.found;
}
