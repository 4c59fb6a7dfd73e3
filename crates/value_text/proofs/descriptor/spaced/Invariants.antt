use Rattle.std.proofs.Common.{◌≡◌, ◌++◌, drop, false}
use Rattle.language_model.specs.Tokens.{spaced}
use Rattle.value_text.proofs.descriptor.spaced.Given as goal

abbrev pub invariant-loop-c : goal.invariant-loop-c
invariant-loop-c l = l.out.items ++ spaced (drop l.c-index l.text) l.started l.pending ≡ spaced l.text false false
