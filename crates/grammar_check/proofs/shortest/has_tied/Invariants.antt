use Rattle.std.proofs.Common.{ℕ, ◌<◌, slice_index}
use Rattle.grammar_check.specs.Links.{Tied}
use Rattle.grammar_check.proofs.shortest.has_tied.Given as goal

abbrev pub invariant-loop-h : goal.invariant-loop-h
invariant-loop-h l = (i : ℕ) → i < l.h-index → Tied l.floors l.x (slice_index l.row i) → ⊥
