use Rattle.std.proofs.Common.{◌≡◌, drop, map, ◌++◌}
use Rattle.language_model.specs.Building.{meanings}
use Rattle.grammar_model.specs.Values.{MakeUndefined}
use Rattle.value_text.specs.Meaning.{action_of, rule_meaning_of}
use Rattle.dsl_statement.specs.Statements.{statement_of}
use Rattle.dsl_meanings.proofs.meanings.meanings.Given as goal

abbrev pub invariant-loop-s : goal.invariant-loop-s
invariant-loop-s l = map rule_meaning_of l.out.items ++ meanings (action_of l.default) (map statement_of (drop l.s-index l.statements)) ≡ meanings MakeUndefined (map statement_of l.statements)
