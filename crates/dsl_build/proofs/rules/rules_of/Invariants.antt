use Rattle.std.proofs.Common.{◌≡◌, take, map, true, false}
use Rattle.std.specs.Prelude.{flat_map, filter}
use Rattle.grammar_core.specs.Written.{rule_of}
use Rattle.language_model.specs.Building.{rules_of, is_of_level}
use Rattle.dsl_statement.specs.Statements.{statement_of}
use Rattle.dsl_build.proofs.rules.rules_of.Given as goal

abbrev pub invariant-loop-s : goal.invariant-loop-s
invariant-loop-s l = record {
  structural : map rule_of l.rules.structural.items ≡ flat_map (rules_of l.structural) (filter (is_of_level false) (map statement_of (take l.s-index l.statements)));
  lexical : map rule_of l.rules.lexical.items ≡ flat_map (rules_of l.lexical) (filter (is_of_level true) (map statement_of (take l.s-index l.statements)));
}
