use Rattle.std.proofs.Common.{◌≡◌, map}
use Rattle.grammar_core.specs.Written.{rule_of}
use Rattle.dsl_build.specs.Rules.{with_rules}
use Rattle.dsl_build.proofs.writing.add_rules.Given as goal

abbrev pub invariant-loop-rule : goal.invariant-loop-rule
invariant-loop-rule l = l.w ≡ with_rules l.fn.w (map rule_of l.yielded)
