use Rattle.std.proofs.Common.{arith, map}
use Rattle.value_text.specs.Meaning.{action_of, rule_meaning_of}
use Rattle.dsl_meanings.proofs.MeaningLemmas.{meanings_on, meanings_end}
use Rattle.dsl_meanings.proofs.meanings.meanings.Goals as goal

pub loop-s-preserved : goal.loop-s-preserved
loop-s-preserved c =
    meanings_on c.args.statements.now c.loop-s.s-index c.s-item.result (action_of c.loop-s.default) _ (map rule_meaning_of c.loop-s.out.items) (map rule_meaning_of c.push_statement.new.out.items) _ (omega arith) c.s-item.is
    c.in_ok-push_statement.ensures c.in_ok-default.ensures c.loop-s.invariant

pub returns : goal.returns
returns c = meanings_end c.args.statements.now c.loop-s.s-index (action_of c.loop-s.default) (map rule_meaning_of c.loop-s.out.items) _ (omega arith) c.loop-s.invariant
