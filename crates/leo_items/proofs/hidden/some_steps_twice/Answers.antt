use Rattle.std.proofs.Common.{true≢false, sym, ◌∙◌, subst, arith}
use Rattle.std.proofs.lemmas.List.{take_all}
use Rattle.finite_sets.proofs.Lists.{Contains-none}
use Rattle.grammar_core.proofs.Placed.{at_found}
use Rattle.item_rows.specs.Rows.{row_at}
use Rattle.item_rows.proofs.Viewing.{whole_over}
use Rattle.leo_items.proofs.Twice.{NoneStepsTwice, none_twice_more, some_twice, none_twice}
use Rattle.leo_items.proofs.hidden.some_steps_twice.Goals as goal

pub loop-k-init : goal.loop-k-init
loop-k-init c item h = λ twice. Contains-none item h

pub steps_twice-requires-clause-rule : goal.steps_twice-requires-clause-rule
steps_twice-requires-clause-rule c = ((c.requires.rows.are c.args.earleme).items c.at.result ((c.whole-whole.ensures.exact c.at.result).0 (at_found c.whole-whole.result c.loop-k.k c.at.result c.at.ensures)).0).is_rule

pub returns-then-steps_twice : goal.returns-then-steps_twice
returns-then-steps_twice c =
    some_twice c.args.flat.now c.args.rows.now.sets c.args.earleme c.args.from c.whole-whole.result
    (whole_over c.args.rows.now c.args.flat.now (row_at c.args.rows.now.sets c.args.earleme) c.whole-whole.result c.requires.rows.flat c.whole-whole.ensures)
    c.at.result (at_found c.whole-whole.result c.loop-k.k c.at.result c.at.ensures) (c.steps_twice.ensures.0 c.if-steps_twice.true)

pub loop-k-preserved : goal.loop-k-preserved
loop-k-preserved c =
    none_twice_more c.args.flat.now c.args.rows.now.sets c.args.earleme c.args.from c.whole-whole.result c.loop-k.k c.at.result c.at.ensures c.loop-k.invariant
    (λ twice. true≢false (sym (c.steps_twice.ensures.1 twice) ∙ c.if-steps_twice.false))

pub returns : goal.returns
returns c =
    none_twice c.args.flat.now c.args.rows.now.sets c.args.earleme c.args.from c.whole-whole.result
    (whole_over c.args.rows.now c.args.flat.now (row_at c.args.rows.now.sets c.args.earleme) c.whole-whole.result c.requires.rows.flat c.whole-whole.ensures)
    (subst (NoneStepsTwice c.args.flat.now c.args.rows.now.sets c.args.earleme c.args.from) (take_all c.loop-k.k c.whole-whole.result (let n = c.len-k-end.ensures in let f = c.loop-k-test.false in omega arith)) c.loop-k.invariant)
