use Rattle.std.proofs.Common.{arith, ◌∙◌, ap, map, true, false, List}
use Rattle.std.specs.Prelude.{flat_map, filter}
use Rattle.std.proofs.lemmas.List.{take_all}
use Rattle.language_model.specs.Building.{rules_of, is_of_level}
use Rattle.dsl_statement.specs.declared.statement.Statement.{Statement as HeldStatement}
use Rattle.dsl_statement.specs.Statements.{statement_of}
use Rattle.dsl_build.proofs.rules.rules_of.Goals as goal

pub returns-clause-structural : goal.returns-clause-structural
returns-clause-structural c =
    c.loop-s.invariant.structural
    ∙ ap (λ (ss : List HeldStatement). flat_map (rules_of c.args.structural.now) (filter (is_of_level false) (map statement_of ss))) (take_all c.loop-s.s-index c.args.statements.now (omega arith))

pub returns-clause-lexical : goal.returns-clause-lexical
returns-clause-lexical c =
    c.loop-s.invariant.lexical
    ∙ ap (λ (ss : List HeldStatement). flat_map (rules_of c.args.lexical.now) (filter (is_of_level true) (map statement_of ss))) (take_all c.loop-s.s-index c.args.statements.now (omega arith))
