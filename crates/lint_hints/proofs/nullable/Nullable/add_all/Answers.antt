use Rattle.dsl_statement.specs.Statements.{statement_of}
use Rattle.lint_hints.specs.Found.{causes_of}
use Rattle.lint_hints.proofs.Rounds.{round_more, round_end, sound_more}
use Rattle.lint_hints.proofs.nullable.Nullable.add_all.Goals as goal

pub loop-statement-preserved : goal.loop-statement-preserved
loop-statement-preserved c =
    record {
      progress = round_more statement_of c.args.statements.now c.loop-statement.statement-index c.statement-item.result (causes_of c.args.self.now) (causes_of c.loop-statement.self) (causes_of c.add.new.self) c.loop-statement.grew c.in_ok-new.new c.either-grew.result c.loop-statement-test.true c.statement-item.is c.loop-statement.invariant.progress c.in_ok-new.ensures c.either-grew.ensures;
      sound = λ s. sound_more statement_of c.args.statements.now c.loop-statement.statement-index c.statement-item.result (causes_of c.loop-statement.self) (causes_of c.add.new.self) c.in_ok-new.new c.loop-statement-test.true c.statement-item.is c.in_ok-new.ensures (c.loop-statement.invariant.sound s);
    }

pub returns-clause-round : goal.returns-clause-round
returns-clause-round c = round_end statement_of c.args.statements.now c.loop-statement.statement-index (causes_of c.args.self.now) (causes_of c.loop-statement.self) c.loop-statement.grew c.loop-statement-test.false c.loop-statement.invariant.progress
