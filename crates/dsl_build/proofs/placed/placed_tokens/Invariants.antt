use Rattle.std.proofs.Common.{◌≡◌, map, Bor}
use Rattle.language_model.specs.Tokens.{Spelled}
use Rattle.dsl_build.proofs.PlacedLemmas.{placed_to}
use Rattle.dsl_build.proofs.placed.placed_tokens.Given as goal

abbrev pub invariant-loop-used : goal.invariant-loop-used
invariant-loop-used l = record {
  tokens : map (λ (t : Bor Spelled). t.now) l.tokens.items ≡ placed_to l.uses l.used-index;
  names : l.names ≡ map (λ (t : Spelled). t.content) (placed_to l.uses l.used-index);
}
