use Rattle.std.proofs.Common.{◌≢◌, ℕ, Some, slice_get}
use Rattle.lexer.proofs.classes.no_classes.Given as goal

abbrev pub invariant-loop : goal.invariant-loop
invariant-loop l = (i k : ℕ) → slice_get l.ascii.items i ≢ Some (Some k)
