use Rattle.std.proofs.Common.{arith, ◌≡◌, ◌⊎◌, ◌+◌, ◌-◌, sym, ◌∙◌, true≢false}
use Rattle.grammar_check.specs.Links.{Tied}
use Rattle.grammar_check.proofs.Gaining.{gains_one, gains_both, gains_same, gains_down, Above, above_more, above_stop, above_end, tied_down}
use Rattle.grammar_check.proofs.layers.descend.Goals as goal

pub overflow_sub-k-end : goal.overflow_sub-k-end
overflow_sub-k-end c = c.requires.floors.below c.args.h c.requires.known

pub returns-then-has-clause-gains : goal.returns-then-has-clause-gains
returns-then-has-clause-gains c =
    let low = c.requires.floors.below c.args.h c.requires.known in
    above_stop c.args.floors.now c.requires.floors c.args.h c.requires.known c.args.found.now c.loop-k.found c.loop-k.k c.requires.down c.loop-k.invariant
    (omega (arith, low, c.loop-k-test.true)) (omega (arith, low, c.loop-k-test.true)) (c.has.ensures.0 c.if-has.true)

pub returns-then-has-clause-down : goal.returns-then-has-clause-down
returns-then-has-clause-down c =
    let low = c.requires.floors.below c.args.h c.requires.known in
    gains_down c.args.floors.now c.args.found.now c.loop-k.found (λ x. Tied c.args.floors.now x c.args.h) c.requires.down
    (above_stop c.args.floors.now c.requires.floors c.args.h c.requires.known c.args.found.now c.loop-k.found c.loop-k.k c.requires.down c.loop-k.invariant
    (omega (arith, low, c.loop-k-test.true)) (omega (arith, low, c.loop-k-test.true)) (c.has.ensures.0 c.if-has.true))
    (tied_down c.args.floors.now c.requires.floors c.args.h c.requires.known)

pub loop-k-preserved : goal.loop-k-preserved
loop-k-preserved c =
    let low = c.requires.floors.below c.args.h c.requires.known in
    gains_same c.args.found.now c.add.new.self (λ x. Above c.args.floors.now c.requires.floors c.args.h c.requires.known c.loop-k.k x ⊎ (x ≡ c.args.h - c.loop-k.k)) (λ x. Above c.args.floors.now c.requires.floors c.args.h c.requires.known (c.loop-k.k + 1) x)
    (above_more c.args.floors.now c.requires.floors c.args.h c.requires.known c.loop-k.k (omega (arith, low, c.loop-k-test.true)))
    (gains_both c.args.found.now c.loop-k.found c.add.new.self (λ x. Above c.args.floors.now c.requires.floors c.args.h c.requires.known c.loop-k.k x) (λ x. x ≡ c.args.h - c.loop-k.k) c.loop-k.invariant
    (gains_one c.loop-k.found c.add.new.self (c.args.h - c.loop-k.k) (λ h. true≢false (sym (c.has.ensures.1 h) ∙ c.if-has.false)) c.in_ok-add.ensures.ok))

pub returns-clause-gains : goal.returns-clause-gains
returns-clause-gains c =
    let low = c.requires.floors.below c.args.h c.requires.known in
    above_end c.args.floors.now c.requires.floors c.args.h c.requires.known c.args.found.now c.loop-k.found c.loop-k.k c.loop-k.invariant (omega (arith, low, c.loop-k-test.false, c.loop-k.auto.k-end))

pub returns-clause-down : goal.returns-clause-down
returns-clause-down c =
    let low = c.requires.floors.below c.args.h c.requires.known in
    gains_down c.args.floors.now c.args.found.now c.loop-k.found (λ x. Tied c.args.floors.now x c.args.h) c.requires.down
    (above_end c.args.floors.now c.requires.floors c.args.h c.requires.known c.args.found.now c.loop-k.found c.loop-k.k c.loop-k.invariant (omega (arith, low, c.loop-k-test.false, c.loop-k.auto.k-end)))
    (tied_down c.args.floors.now c.requires.floors c.args.h c.requires.known)
