use Rattle.std.proofs.Common.{inl, inr, Option, sym, subst, refl}
use Rattle.std.specs.Prelude.{IsNone}
use Rattle.std.proofs.lemmas.Result.{on_ok_weaker}
use Rattle.recognizer_model.specs.declared.Item.{Item}
use Rattle.leo_items.proofs.Adding.{adds_key}
use Rattle.forest_parts.specs.Unasked.{IsAwaiting, IsOver}
use Rattle.forest_parts.proofs.Taking.{takes_one, takes_of}
use Rattle.forest_parts.proofs.Tops.{top_rule, leads_same, leads_none}
use Rattle.forest_parts.proofs.unasked.put_over.Goals as goal

pub returns-in_ok-insert-in-Some : goal.returns-in_ok-insert-in-Some
returns-in_ok-insert-in-Some c =
    takes_one c.args.recce.now (IsOver c.args.recce.now c.args.end c.args.item) c.args.items.now.keys c.insert.new.self.keys c.in-Some.top (adds_key c.args.items.now.keys c.insert.new.self.keys _ c.in_ok-insert-in-Some.ensures.keys)
    (inl c.in-Some.ensures.some)
    (λ x p. elim p [
      | inl up ↦ leads_same c.args.recce.now c.requires.is c.args.end c.args.item x c.in-Some.top up c.in-Some.ensures.some
      | inr (still, w) ↦ absurd (leads_none c.args.recce.now c.args.end c.args.item c.in-Some.top c.in-Some.ensures.some still)
    ])
    (top_rule c.args.recce.now c.requires.is c.args.end c.requires.end c.args.item c.in-Some.top c.in-Some.ensures.some)

pub returns-in-None : goal.returns-in-None
returns-in-None c =
    on_ok_weaker c.put_awaiting.result
    (λ t. takes_of c.args.recce.now (IsAwaiting c.args.recce.now c.args.item) (IsOver c.args.recce.now c.args.end c.args.item) c.args.items.now.keys c.put_awaiting.new.items.keys
    (λ x p. elim p [
      | inl up ↦ absurd (leads_none c.args.recce.now c.args.end c.args.item x up (c.topmost.ensures.none (subst (λ (o : Option Item). IsNone o) (sym c.in-None.is) refl)))
      | inr (still, w) ↦ w
    ])
    (λ x w. inr (c.topmost.ensures.none (subst (λ (o : Option Item). IsNone o) (sym c.in-None.is) refl), w)) t)
    c.put_awaiting.ensures
