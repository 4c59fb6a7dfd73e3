use Rattle.std.proofs.Common.{Contains}
use Rattle.reading_model.proofs.First.{first_at, none_more, none_all}
use Rattle.slippers.proofs.list.first_to_give.Goals as goal

pub returns-then-may_give-clause-some : goal.returns-then-may_give-clause-some
returns-then-may_give-clause-some c =
    first_at (λ s. Contains c.args.expected.now s × (Contains c.args.given.now s → ⊥)) c.args.names.now c.loop-symbol.symbol-index c.symbol-item.result c.loop-symbol-test.true c.symbol-item.is (c.may_give.ensures.0 c.if-may_give.true) c.loop-symbol.invariant

pub loop-symbol-preserved : goal.loop-symbol-preserved
loop-symbol-preserved c =
    none_more (λ s. Contains c.args.expected.now s × (Contains c.args.given.now s → ⊥)) c.args.names.now c.loop-symbol.symbol-index c.symbol-item.result c.loop-symbol-test.true c.symbol-item.is (λ p. let t = c.may_give.ensures.1 p in let f = c.if-may_give.false in cc) c.loop-symbol.invariant

pub returns-clause-none : goal.returns-clause-none
returns-clause-none c = λ none. none_all (λ s. Contains c.args.expected.now s × (Contains c.args.given.now s → ⊥)) c.args.names.now c.loop-symbol.symbol-index c.loop-symbol-test.false c.loop-symbol.invariant
