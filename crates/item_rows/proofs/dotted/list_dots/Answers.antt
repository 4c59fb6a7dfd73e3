use Rattle.std.proofs.Common.{◌≡◌, ◌+◌, ◌++◌, ◌∷◌, [], List, length, suc, ap, subst, arith}
use Rattle.recognizer_model.specs.Flat.{rhs_of}
use Rattle.item_rows.specs.Dotted.{AddsDots}
use Rattle.item_rows.proofs.Listed.{no_dots, more_dots}
use Rattle.item_rows.proofs.dotted.list_dots.Goals as goal

pub loop-dot-init : goal.loop-dot-init
loop-dot-init c = no_dots c.args.rule c.args.listed.now.items

pub loop-dot-preserved : goal.loop-dot-preserved
loop-dot-preserved c =
    let e : suc c.loop-dot.dot ≡ c.loop-dot.dot + 1 = omega arith in
    subst (λ n. AddsDots c.args.rule n c.args.listed.now.items c.push.new.self.items) e
    (more_dots c.args.rule c.loop-dot.dot c.args.listed.now.items c.loop-dot.listed.items c.push.new.self.items c.loop-dot.invariant c.in_ok-push.ensures.items)

pub returns : goal.returns
returns c =
    let count = length (rhs_of c.args.flat.now c.args.rule) in
    let is = ap (λ (l : List _). length l) c.rhs.ensures in
    let dots : c.loop-dot.dot ≡ count = (let done = c.loop-dot-test.false in omega arith) in
    more_dots c.args.rule count c.args.listed.now.items c.loop-dot.listed.items c.push-2.new.self.items (subst (λ n. AddsDots c.args.rule n c.args.listed.now.items c.loop-dot.listed.items) dots c.loop-dot.invariant)
    (subst (λ n. c.push-2.new.self.items ≡ c.loop-dot.listed.items ++ record { rule = c.args.rule; dot = n; origin = 0 } ∷ []) is c.in_ok-push-2.ensures.items)
