use Rattle.std.proofs.Common.{◌≡◌, ◌≤◌, [], Option, refl, sym, subst, arith}
use Rattle.std.specs.Prelude.{IsNone}
use Rattle.recognizer_model.specs.declared.Item.{Item}
use Rattle.forest_parts.proofs.Gathering.{gains_none, gains_push}
use Rattle.finite_sets.proofs.Lists.{Contains-none}
use Rattle.forest_parts.specs.Needed.{LeadsOver}
use Rattle.forest_parts.proofs.Tops.{leads_same, leads_none}
use Rattle.first_walk.proofs.near.put_top.Goals as goal

pub returns-in_ok-push-2-clause-tops : goal.returns-in_ok-push-2-clause-tops
returns-in_ok-push-2-clause-tops c =
    gains_push (λ x. LeadsOver c.args.recce.now [] c.args.end c.args.least c.args.item x) c.args.tops.now.items c.push.new.self.items c.in-Some.top c.in_ok-push.ensures.items
    (λ x. (
      λ (up, may). leads_same c.args.recce.now c.requires.is c.args.end c.args.item x c.in-Some.top up c.in-Some.ensures.some,
      λ e. subst (λ z. LeadsOver c.args.recce.now [] c.args.end c.args.least c.args.item z) (sym e) (c.in-Some.ensures.some, (c.if-least-top.true, Contains-none c.in-Some.top)),
    ))

pub returns-else-least-top-clause-tops : goal.returns-else-least-top-clause-tops
returns-else-least-top-clause-tops c =
    gains_none (λ x. LeadsOver c.args.recce.now [] c.args.end c.args.least c.args.item x) c.args.tops.now.items
    (λ x (up, may). (let same = leads_same c.args.recce.now c.requires.is c.args.end c.args.item x c.in-Some.top up c.in-Some.ensures.some in
    let le : c.args.least ≤ c.in-Some.top.origin = subst (λ (z : Item). c.args.least ≤ z.origin) same may.0 in let gt = c.if-least-top.false in omega arith))

pub returns-else-least-top-clause-bottoms : goal.returns-else-least-top-clause-bottoms
returns-else-least-top-clause-bottoms c =
    gains_none (λ x. (x ≡ c.args.item) × ((top : Item) × LeadsOver c.args.recce.now [] c.args.end c.args.least c.args.item top)) c.args.bottoms.now.items
    (λ x (e, (t, (up, may))). (let same = leads_same c.args.recce.now c.requires.is c.args.end c.args.item t c.in-Some.top up c.in-Some.ensures.some in
    let le : c.args.least ≤ c.in-Some.top.origin = subst (λ (z : Item). c.args.least ≤ z.origin) same may.0 in let gt = c.if-least-top.false in omega arith))

pub returns-in_default-clause-tops : goal.returns-in_default-clause-tops
returns-in_default-clause-tops c =
    gains_none (λ x. LeadsOver c.args.recce.now [] c.args.end c.args.least c.args.item x) c.args.tops.now.items
    (λ x (up, may). leads_none c.args.recce.now c.args.end c.args.item x up (c.topmost.ensures.none (subst (λ (o : Option Item). IsNone o) (sym c.in_default.is) refl)))

pub returns-in_default-clause-bottoms : goal.returns-in_default-clause-bottoms
returns-in_default-clause-bottoms c =
    gains_none (λ x. (x ≡ c.args.item) × ((top : Item) × LeadsOver c.args.recce.now [] c.args.end c.args.least c.args.item top)) c.args.bottoms.now.items
    (λ x (e, (t, (up, may))). leads_none c.args.recce.now c.args.end c.args.item t up (c.topmost.ensures.none (subst (λ (o : Option Item). IsNone o) (sym c.in_default.is) refl)))

pub returns-in_ok-push-2-clause-bottoms : goal.returns-in_ok-push-2-clause-bottoms
returns-in_ok-push-2-clause-bottoms c =
    gains_push (λ x. (x ≡ c.args.item) × ((top : Item) × LeadsOver c.args.recce.now [] c.args.end c.args.least c.args.item top)) c.args.bottoms.now.items c.push-then-least-top.new.self.items c.args.item c.in_ok-push-2.ensures.items
    (λ x. (λ (e, h). e, λ e. (e, (c.in-Some.top, (c.in-Some.ensures.some, (c.if-least-top.true, Contains-none c.in-Some.top))))))
