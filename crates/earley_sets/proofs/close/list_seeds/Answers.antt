use Rattle.std.proofs.Common.{inl, inr, length, subst}
use Rattle.std.proofs.lemmas.Result.{on_ok_weaker}
use Rattle.begun_lists.specs.Tried.{RisesWithin}
use Rattle.earley_sets.specs.Tried.{MakesScan}
use Rattle.earley_sets.proofs.close.list_seeds.Goals as goal

pub returns-clause-listed : goal.returns-clause-listed
returns-clause-listed c =
    on_ok_weaker c.list_scanned.result
    (λ h item. (
      λ n. elim ((h item).0 n) [ inl o ↦ inl ((c.in_ok-list_first.ensures.listed item).0 o) | inr s ↦ inr s ],
      λ n. (h item).1 (elim n [ inl o ↦ inl ((c.in_ok-list_first.ensures.listed item).1 o) | inr s ↦ inr s ]),
    ))
    c.list_scanned.ensures.listed

pub returns-clause-links : goal.returns-clause-links
returns-clause-links c =
    on_ok_weaker c.list_scanned.result
    (λ r some. subst (λ n. RisesWithin (MakesScan c.args.flat.now c.args.rows.now.sets c.args.earleme c.args.edges.now) n (length c.list_scanned.new.next.items)) (c.in_ok-list_first.ensures.none some) r)
    c.list_scanned.ensures.links
