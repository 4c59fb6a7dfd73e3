use Rattle.std.proofs.Common.{◌≡◌, ◌≤◌, inr, Option, Contains, refl, sym, ap, subst, arith}
use Rattle.std.specs.Prelude.{IsNone}
use Rattle.recognizer_model.specs.declared.Item.{Item}
use Rattle.leo_items.proofs.Adding.{tells_there}
use Rattle.earley_sets.specs.Below.{LeadsUp}
use Rattle.forest_parts.proofs.Taking.{tells_none, tells_of}
use Rattle.forest_parts.proofs.Tops.{top_rule, leads_none, leads_same}
use Rattle.forest_parts.proofs.unasked.look_at_top.Goals.{else-least-top-via-then-least-top+else-not-contains, else-least-top-via-else-least-top}
use Rattle.forest_parts.proofs.unasked.look_at_top.Goals as goal

pub note_unasked-requires-clause-item : goal.note_unasked-requires-clause-item
note_unasked-requires-clause-item c = (top_rule c.args.recce.now c.requires.is c.args.end c.requires.end c.args.item c.in-Some.top c.in-Some.ensures.some).0

pub note_unasked-requires-clause-origin : goal.note_unasked-requires-clause-origin
note_unasked-requires-clause-origin c = (top_rule c.args.recce.now c.requires.is c.args.end c.requires.end c.args.item c.in-Some.top c.in-Some.ensures.some).1

pub returns-in_default : goal.returns-in_default
returns-in_default c =
    tells_none c.args.w.now c.args.ranking c.args.recce.now c.args.keys.now.keys c.args.end (λ x. LeadsUp c.args.recce.now c.args.end c.args.item x × (c.args.least ≤ x.origin)) c.args.unasked.now.keys c.args.asked.now.keys c.requires.parted
    (λ x (up, late). absurd (leads_none c.args.recce.now c.args.end c.args.item x up (c.topmost.ensures.none (subst (λ (o : Option Item). IsNone o) (sym c.in_default.is) refl))))

pub returns-else-least-top : goal.returns-else-least-top
returns-else-least-top c =
    tells_none c.args.w.now c.args.ranking c.args.recce.now c.args.keys.now.keys c.args.end (λ x. LeadsUp c.args.recce.now c.args.end c.args.item x × (c.args.least ≤ x.origin)) c.args.unasked.now.keys c.args.asked.now.keys c.requires.parted
    (λ x (up, late).
    (let same = leads_same c.args.recce.now c.requires.is c.args.end c.args.item c.in-Some.top x c.in-Some.ensures.some up in
    elim c.else-least-top.branch [
      | else-least-top-via-then-least-top+else-not-contains w ↦
          let tells = tells_there c.args.asked.now.keys c.in-Some.top w.contains.result w.contains.ensures in
          inr (subst (λ z. Contains c.args.asked.now.keys z) same (tells.0 w.if-not-contains.false))
      | else-least-top-via-else-least-top w ↦ (let e = ap (λ (z : Item). z.origin) same in let low = w.if-least-top.false in absurd (omega arith))
    ]))

pub returns-in_ok-note_unasked : goal.returns-in_ok-note_unasked
returns-in_ok-note_unasked c =
    tells_of c.args.w.now c.args.ranking c.args.recce.now c.args.keys.now.keys c.args.end (λ x. x ≡ c.in-Some.top) (λ x. LeadsUp c.args.recce.now c.args.end c.args.item x × (c.args.least ≤ x.origin)) c.args.unasked.now.keys c.args.asked.now.keys c.note_unasked.new.unasked.keys c.note_unasked.new.asked.keys
    (λ x (up, late). leads_same c.args.recce.now c.requires.is c.args.end c.args.item x c.in-Some.top up c.in-Some.ensures.some) c.in_ok-note_unasked.ensures
