use Rattle.std.proofs.Common.{inl, inr, List, Contains, sym, subst}
use Rattle.std.proofs.lemmas.List.Elements.{Contains-push_cases}
use Rattle.scanless.specs.declared.notes.Note.{Note as ANote}
use Rattle.scanless.proofs.notes.put_note.Goals as goal

pub returns-in_err-push : goal.returns-in_err-push
returns-in_err-push c = λ other h. c.loop.invariant other (subst (λ (l : List ANote). Contains l other) c.in_err-push.ensures.items h)

pub loop-preserved : goal.loop-preserved
loop-preserved c = λ other h.
    elim (Contains-push_cases c.loop.notes.items c.args.note other (subst (λ (l : List ANote). Contains l other) c.in_ok-push.ensures.items h)) [ inl o ↦ c.loop.invariant other o | inr same ↦ inr (sym same) ]

pub returns-in_err-push-2 : goal.returns-in_err-push-2
returns-in_err-push-2 c = λ other h. c.loop.invariant other (subst (λ (l : List ANote). Contains l other) c.in_err-push-2.ensures.items h)

pub returns : goal.returns
returns c = λ other h.
    elim (Contains-push_cases c.loop.notes.items c.args.note other (subst (λ (l : List ANote). Contains l other) c.in_ok-push-2.ensures.items h)) [ inl o ↦ c.loop.invariant other o | inr same ↦ inr (sym same) ]
