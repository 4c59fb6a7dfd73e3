use Rattle.std.proofs.Common.{get_or}
use Rattle.std.proofs.lemmas.List.{get_or_default}
use Rattle.flat_rules.specs.Tables.{told_slot}
use Rattle.flat_rules.specs.Added.{from_rule}
use Rattle.flat_rules.proofs.Adding.{loop_stop, loop_next, loop_end}
use Rattle.flat_rules.proofs.flattening.push_row.Goals as goal

pub push_for_slot-requires-clause-rule : goal.push_for_slot-requires-clause-rule
push_for_slot-requires-clause-rule c = (c.requires.row _ (c.loop-i.i-index, c.loop-i-test.true, get_or_default c.args.row.now c.loop-i.i-index _ 0 c.loop-i-test.true)).0

pub push_for_slot-requires-clause-left : goal.push_for_slot-requires-clause-left
push_for_slot-requires-clause-left c = (c.requires.row _ (c.loop-i.i-index, c.loop-i-test.true, get_or_default c.args.row.now c.loop-i.i-index _ 0 c.loop-i-test.true)).1

pub returns-in_err-push_for_slot : goal.returns-in_err-push_for_slot
returns-in_err-push_for_slot c = λ d.
    loop_stop (from_rule c.args.c.now d c.args.symbols.now (told_slot c.args.slot)) c.args.row.now c.loop-i.i-index (get_or c.args.row.now c.loop-i.i-index 0) c.args.rules.now.items c.loop-i.rules.items c.push_for_slot.new.rules.items c.push_for_slot.new.rules.items
    c.in_err-push_for_slot.field-0.0 c.from_residual.result c.loop-i-test.true (get_or_default c.args.row.now c.loop-i.i-index 0 _ c.loop-i-test.true) c.from_residual.ensures.1 (c.loop-i.invariant d) (c.in_err-push_for_slot.ensures d)

pub loop-i-preserved : goal.loop-i-preserved
loop-i-preserved c = λ d.
    loop_next (from_rule c.args.c.now d c.args.symbols.now (told_slot c.args.slot)) c.args.row.now c.loop-i.i-index (get_or c.args.row.now c.loop-i.i-index 0) c.args.rules.now.items c.loop-i.rules.items c.push_for_slot.new.rules.items
    c.loop-i-test.true (get_or_default c.args.row.now c.loop-i.i-index 0 _ c.loop-i-test.true) (c.loop-i.invariant d) (c.in_ok-push_for_slot.ensures d)

pub returns : goal.returns
returns c = λ d.
    loop_end (from_rule c.args.c.now d c.args.symbols.now (told_slot c.args.slot)) c.args.row.now c.loop-i.i-index c.args.rules.now.items c.loop-i.rules.items c.loop-i-test.false (c.loop-i.invariant d)
