use Rattle.std.proofs.Common.{inl, inr, sym, subst}
use Rattle.finite_sets.proofs.Lists.{Contains-none}
use Rattle.leo_items.specs.Closed.{Grows}
use Rattle.leo_items.specs.Walked.{AreGathered}
use Rattle.leo_items.proofs.below.gather.Goals as goal

pub returns : goal.returns
returns c =
    let above = subst (λ l. Grows l c.put_all.new.set c.args.tops.now) c.new-first.ensures c.in_ok-put_all.ensures in
    subst (λ l. AreGathered l c.args.tops.now c.args.bottoms.now) (sym c.make_ready.ensures) (inr (λ item. (
      λ h. elim ((c.in_ok-put_all-2.ensures.has item).0 h) [
        | inl o ↦ elim ((above.has item).0 o) [ inl n ↦ absurd (Contains-none item n) | inr t ↦ inl t ]
        | inr b ↦ inr b
      ],
      λ h. (c.in_ok-put_all-2.ensures.has item).1 (elim h [ inl t ↦ inl ((above.has item).1 (inr t)) | inr b ↦ inr b ]),
    )))
