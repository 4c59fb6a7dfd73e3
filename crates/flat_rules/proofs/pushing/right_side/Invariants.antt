use Rattle.std.proofs.Common.{◌≡◌, map}
use Rattle.grammar_model.specs.Grammar.{rule_at}
use Rattle.grammar_model.specs.Simple.{numbers}
use Rattle.flat_rules.specs.Added.{part_in}
use Rattle.flat_rules.proofs.pushing.right_side.Given as goal

abbrev pub invariant-loop-k : goal.invariant-loop-k
invariant-loop-k l = l.rhs.items ≡ map (part_in l.symbols (rule_at l.w l.i)) (numbers l.k)
