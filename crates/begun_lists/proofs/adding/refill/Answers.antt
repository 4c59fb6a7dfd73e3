use Rattle.std.proofs.Common.{inl, inr, List, Contains, subst}
use Rattle.std.proofs.lemmas.Result.{on_ok_weaker}
use Rattle.finite_sets.proofs.Lists.{Contains-none}
use Rattle.recognizer_model.specs.declared.Item.{Item}
use Rattle.begun_lists.specs.Closing.{Grows}
use Rattle.begun_lists.proofs.adding.refill.Goals as goal

pub returns-clause-same : goal.returns-clause-same
returns-clause-same g c =
    on_ok_weaker c.add_items.result
    (λ (h : Grows c.clear.new.self c.add_items.new.set c.args.items.now) item. (
      λ n. elim ((h.has item).0 n) [ inl o ↦ absurd (Contains-none item (subst (λ (l : List Item). Contains l item) c.clear.ensures o)) | inr s ↦ s ],
      λ n. (h.has item).1 (inr n),
    ))
    c.add_items.ensures.grows
