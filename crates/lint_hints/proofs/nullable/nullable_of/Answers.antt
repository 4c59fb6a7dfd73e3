use Rattle.dsl_statement.specs.Statements.{statements_of}
use Rattle.lint_hints.specs.Found.{causes_of}
use Rattle.lint_hints.proofs.Rounds.{empty_sound, round_less, last_round}
use Rattle.lint_hints.proofs.nullable.nullable_of.Goals as goal

pub loop-nullable-init : goal.loop-nullable-init
loop-nullable-init c = empty_sound (statements_of c.args.statements.now) c.no_causes-nullable.result c.no_causes-nullable.ensures

pub loop-nullable-preserved : goal.loop-nullable-preserved
loop-nullable-preserved c = c.in_ok-grew.ensures.sound c.loop-nullable.invariant

pub loop-nullable-smaller : goal.loop-nullable-smaller
loop-nullable-smaller c = round_less (statements_of c.args.statements.now) (causes_of c.loop-nullable.nullable) (causes_of c.add_all.new.self) c.in_ok-grew.grew c.if-not-grew.false c.in_ok-grew.ensures.round

pub returns-then-not-grew : goal.returns-then-not-grew
returns-then-not-grew c = last_round (statements_of c.args.statements.now) (causes_of c.loop-nullable.nullable) (causes_of c.add_all.new.self) c.in_ok-grew.grew c.if-not-grew.true c.in_ok-grew.ensures.round (c.in_ok-grew.ensures.sound c.loop-nullable.invariant)
