use Rattle.std.proofs.Common.{◌≡◌, drop, codes}
use Rattle.language_model.specs.Building.{value_of}
use Rattle.dsl_statement.specs.Statements.{adverbs_of}
use Rattle.lint_hints.proofs.sides.separator_of.Given as goal

abbrev pub invariant-loop-adverb : goal.invariant-loop-adverb
invariant-loop-adverb l = value_of (codes "separator") (adverbs_of (drop l.adverb-index l.adverbs)) ≡ value_of (codes "separator") (adverbs_of l.adverbs)
