use Rattle.std.proofs.Common.{rules, ◌≡◌, Option, refl, sym, subst}
use Rattle.std.specs.Prelude.{IsNone}
use Rattle.recognizer_model.specs.declared.Item.{Item}
use Rattle.forest_parts.proofs.Gathering.{gains_none, gains_push}
use Rattle.forest_parts.specs.Needed.{LeadsOver, MayBeUsed}
use Rattle.forest_parts.proofs.Tops.{leads_same, leads_none}
use Rattle.forest_parts.proofs.needed.put_top.Goals as goal

pub returns-in_ok-push-2-clause-tops : goal.returns-in_ok-push-2-clause-tops
returns-in_ok-push-2-clause-tops c =
    gains_push (λ x. LeadsOver c.args.recce.now c.args.unasked.now.keys c.args.end c.args.least c.args.item x) c.args.tops.now.items c.push.new.self.items c.in-Some.top c.in_ok-push.ensures.items
    (λ x. (
      λ (up, may). leads_same c.args.recce.now c.requires.is c.args.end c.args.item x c.in-Some.top up c.in-Some.ensures.some,
      λ e. subst (λ z. LeadsOver c.args.recce.now c.args.unasked.now.keys c.args.end c.args.least c.args.item z) (sym e) (c.in-Some.ensures.some, c.may_be_used.ensures.0 (search rules)),
    ))

pub returns-else-may_be_used-clause-tops : goal.returns-else-may_be_used-clause-tops
returns-else-may_be_used-clause-tops c =
    gains_none (λ x. LeadsOver c.args.recce.now c.args.unasked.now.keys c.args.end c.args.least c.args.item x) c.args.tops.now.items
    (λ x (up, may). (let same = leads_same c.args.recce.now c.requires.is c.args.end c.args.item x c.in-Some.top up c.in-Some.ensures.some in
    let t = c.may_be_used.ensures.1 (subst (λ z. MayBeUsed c.args.unasked.now.keys c.args.least z) same may) in absurd (search rules)))

pub returns-else-may_be_used-clause-bottoms : goal.returns-else-may_be_used-clause-bottoms
returns-else-may_be_used-clause-bottoms c =
    gains_none (λ x. (x ≡ c.args.item) × ((top : Item) × LeadsOver c.args.recce.now c.args.unasked.now.keys c.args.end c.args.least c.args.item top)) c.args.bottoms.now.items
    (λ x (e, (t, (up, may))). (let same = leads_same c.args.recce.now c.requires.is c.args.end c.args.item t c.in-Some.top up c.in-Some.ensures.some in
    let t' = c.may_be_used.ensures.1 (subst (λ z. MayBeUsed c.args.unasked.now.keys c.args.least z) same may) in absurd (search rules)))

pub returns-in_default-clause-tops : goal.returns-in_default-clause-tops
returns-in_default-clause-tops c =
    gains_none (λ x. LeadsOver c.args.recce.now c.args.unasked.now.keys c.args.end c.args.least c.args.item x) c.args.tops.now.items
    (λ x (up, may). leads_none c.args.recce.now c.args.end c.args.item x up (c.topmost.ensures.none (subst (λ (o : Option Item). IsNone o) (sym c.in_default.is) refl)))

pub returns-in_default-clause-bottoms : goal.returns-in_default-clause-bottoms
returns-in_default-clause-bottoms c =
    gains_none (λ x. (x ≡ c.args.item) × ((top : Item) × LeadsOver c.args.recce.now c.args.unasked.now.keys c.args.end c.args.least c.args.item top)) c.args.bottoms.now.items
    (λ x (e, (t, (up, may))). leads_none c.args.recce.now c.args.end c.args.item t up (c.topmost.ensures.none (subst (λ (o : Option Item). IsNone o) (sym c.in_default.is) refl)))

pub returns-in_ok-push-2-clause-bottoms : goal.returns-in_ok-push-2-clause-bottoms
returns-in_ok-push-2-clause-bottoms c =
    gains_push (λ x. (x ≡ c.args.item) × ((top : Item) × LeadsOver c.args.recce.now c.args.unasked.now.keys c.args.end c.args.least c.args.item top)) c.args.bottoms.now.items c.push-then-may_be_used.new.self.items c.args.item c.in_ok-push-2.ensures.items
    (λ x. (λ (e, h). e, λ e. (e, (c.in-Some.top, (c.in-Some.ensures.some, c.may_be_used.ensures.0 (search rules))))))
