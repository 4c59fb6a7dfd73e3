use Rattle.std.proofs.Common.{◌≡◌, ◌+◌, map}
use Rattle.grammar_model.specs.Simple.{numbers}
use Rattle.flat_rules.proofs.flattening.top_rules.Given as goal

abbrev pub invariant-loop-k : goal.invariant-loop-k
invariant-loop-k l = l.tops.items ≡ map (λ k. l.before + k) (numbers l.k)
