use Rattle.std.proofs.Common.{arith, ap, sym, subst, length, List, Contains}
use Rattle.recognizer_model.specs.declared.Item.{Item}
use Rattle.begun_lists.proofs.Begins.{closed_begins}
use Rattle.begun_lists.proofs.Beginning.{firsts_together, first_is_item}
use Rattle.begun_lists.proofs.Rising.{rises_moved}
use Rattle.begun_lists.proofs.begun.fill_begun.Goals as goal

pub close_begun-requires-clause-items : goal.close_begun-requires-clause-items
close_begun-requires-clause-items g c item n =
    (first_is_item c.args.flat.now c.args.symbols.now item ((c.in_ok-list_firsts.ensures.listed item).0 (subst (λ (l : List Item). Contains l item) c.deref.ensures.value ((c.in_ok-refill.ensures.same item).0 n)))).0

pub close_begun-requires-clause-origins : goal.close_begun-requires-clause-origins
close_begun-requires-clause-origins g c item n =
    (first_is_item c.args.flat.now c.args.symbols.now item ((c.in_ok-list_firsts.ensures.listed item).0 (subst (λ (l : List Item). Contains l item) c.deref.ensures.value ((c.in_ok-refill.ensures.same item).0 n)))).1

pub close_begun-requires-clause-together : goal.close_begun-requires-clause-together
close_begun-requires-clause-together g c =
    firsts_together c.args.flat.now c.args.symbols.now c.refill.new.set
    (λ item. (
      λ n. (c.in_ok-list_firsts.ensures.listed item).0 (subst (λ (l : List Item). Contains l item) c.deref.ensures.value ((c.in_ok-refill.ensures.same item).0 n)),
      λ n. (c.in_ok-refill.ensures.same item).1 (subst (λ (l : List Item). Contains l item) (sym c.deref.ensures.value) ((c.in_ok-list_firsts.ensures.listed item).1 n)),
    ))

pub returns-clause-begun : goal.returns-clause-begun
returns-clause-begun g c =
    closed_begins c.args.flat.now c.args.symbols.now c.refill.new.set
    (λ item. (
      λ n. (c.in_ok-list_firsts.ensures.listed item).0 (subst (λ (l : List Item). Contains l item) c.deref.ensures.value ((c.in_ok-refill.ensures.same item).0 n)),
      λ n. (c.in_ok-refill.ensures.same item).1 (subst (λ (l : List Item). Contains l item) (sym c.deref.ensures.value) ((c.in_ok-list_firsts.ensures.listed item).1 n)),
    )) c.close_begun.new.set c.in_ok-close_begun.ensures.closed

pub returns-clause-tried : goal.returns-clause-tried
returns-clause-tried g c =
    let counted = c.in_ok-refill.ensures.counted in
    let listed = ap (λ (l : List Item). length l) c.deref.ensures.value in
    (c.refill.new.steps, rises_moved c.args.steps.now c.refill.new.steps (omega (arith, counted, listed)) c.in_ok-list_firsts.ensures.tried, c.in_ok-close_begun.ensures.counted)
