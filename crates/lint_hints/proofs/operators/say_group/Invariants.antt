use Rattle.std.proofs.Common.{◌≡◌, drop}
use Rattle.std.specs.List.{list_any}
use Rattle.dsl_statement.specs.Statements.{adverbs_of}
use Rattle.lint_hints.specs.Hints.{is_of_any_group}
use Rattle.lint_hints.proofs.operators.say_group.Given as goal

abbrev pub invariant-loop-adverb : goal.invariant-loop-adverb
invariant-loop-adverb l = list_any is_of_any_group (adverbs_of (drop l.adverb-index l.adverbs)) ≡ list_any is_of_any_group (adverbs_of l.adverbs)
