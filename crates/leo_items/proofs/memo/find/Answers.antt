use Rattle.std.proofs.Common.{◌≡◌, ◌-◌, sym, ◌∙◌, subst, arith, true≢false}
use Rattle.leo_items.specs.Linked.{pair_at}
use Rattle.leo_items.proofs.Chains.{same_pair-true}
use Rattle.leo_items.proofs.Linking.{IsOn, same_pair-is, on_first, on_next, on_found, on_none}
use Rattle.leo_items.proofs.memo.find.Goals as goal

pub loop-number-init : goal.loop-number-init
loop-number-init c = on_first c.args.notes.now c.args.pair c.args.last c.requires.last

pub loop-number-preserved : goal.loop-number-preserved
loop-number-preserved c =
    let some = c.loop-number-test.true in
    on_next c.args.notes.now c.requires.linked c.args.pair c.loop-number.number (c.loop-number.number - 1) c.loop-number.invariant (omega arith)
    (λ e. true≢false (sym (same_pair-is (pair_at c.args.notes.now (c.loop-number.number - 1)) c.args.pair e) ∙ (sym c.eq.ensures ∙ c.if-eq.false)))

pub returns-then-eq : goal.returns-then-eq
returns-then-eq c =
    let some = c.loop-number-test.true in
    sym (on_found c.args.notes.now c.requires.linked c.args.pair c.loop-number.number (c.loop-number.number - 1) c.loop-number.invariant (omega arith)
    (same_pair-true (pair_at c.args.notes.now (c.loop-number.number - 1)) c.args.pair (sym c.eq.ensures ∙ c.if-eq.true)))

pub returns : goal.returns
returns c =
    let end = c.loop-number-test.false in
    let none : c.loop-number.number ≡ 0 = omega arith in
    sym (on_none c.args.notes.now c.args.pair (subst (IsOn c.args.notes.now c.args.pair) none c.loop-number.invariant))
