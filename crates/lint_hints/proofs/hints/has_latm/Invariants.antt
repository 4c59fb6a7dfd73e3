use Rattle.std.proofs.Common.{◌≡◌, drop}
use Rattle.std.specs.List.{list_any}
use Rattle.dsl_statement.specs.Statements.{adverbs_of}
use Rattle.lint_hints.specs.Hints.{is_latm}
use Rattle.lint_hints.proofs.hints.has_latm.Given as goal

abbrev pub invariant-loop-adverb : goal.invariant-loop-adverb
invariant-loop-adverb l = list_any is_latm (adverbs_of (drop l.adverb-index l.adverbs)) ≡ list_any is_latm (adverbs_of l.adverbs)
