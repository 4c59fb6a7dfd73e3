use Rattle.std.proofs.Common.{inl, inr, sym, subst, List, Contains}
use Rattle.std.proofs.lemmas.List.Elements.{Contains-append_left, Contains-append_right, Contains-append_cases}
use Rattle.recognizer_model.specs.declared.thread.Thread.{Thread}
use Rattle.threads.proofs.part.list_waiting.Goals as goal

pub returns : goal.returns
returns c th = (
  λ h. elim (Contains-append_cases c.args.part.now.items c.waiting-threads.result.now th (subst (λ (l : List Thread). Contains l th) c.in_ok-extend_from_slice.ensures.items h)) [
    | inl o ↦ inl o
    | inr t ↦ inr ((c.waiting-threads.ensures th).0 t)
  ],
  λ s. subst (λ (l : List Thread). Contains l th) (sym c.in_ok-extend_from_slice.ensures.items) (elim s [
    | inl o ↦ Contains-append_left c.args.part.now.items c.waiting-threads.result.now th o
    | inr t ↦ Contains-append_right c.args.part.now.items c.waiting-threads.result.now th ((c.waiting-threads.ensures th).1 t)
  ]),
)
