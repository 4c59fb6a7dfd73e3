use Rattle.std.proofs.Common.{◌≡◌, ◌++◌}
use Rattle.slif_glades.specs.Pieces.{spaces}
use Rattle.slif_glades.proofs.pieces.push_spaces.Given as goal

abbrev pub invariant-loop : goal.invariant-loop
invariant-loop l = l.text.items ≡ l.fn.text.items ++ spaces l.counter
