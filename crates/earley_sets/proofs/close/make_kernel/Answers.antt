use Rattle.std.proofs.Common.{arith, ◌+◌, sym, ap, subst, length, List, Contains}
use Rattle.std.proofs.lemmas.Result.{on_ok_weaker}
use Rattle.recognizer_model.specs.declared.Item.{Item}
use Rattle.earley_sets.proofs.Nulling.{nulled_rows}
use Rattle.begun_lists.proofs.Rising.{rises_moved}
use Rattle.earley_sets.proofs.Scanning.{seeds_are_items}
use Rattle.earley_sets.proofs.Trying.{all_links}
use Rattle.earley_sets.proofs.close.make_kernel.Goals as goal

pub close-requires-clause-items : goal.close-requires-clause-items
close-requires-clause-items g c =
    seeds_are_items c.args.flat.now c.args.edges.now c.args.top c.requires.top c.requires.forward c.args.rows.now.sets c.args.earleme c.requires.sets c.refill.new.set
    (λ item. (
      λ n. (c.in_ok-list_seeds.ensures.listed item).0 (subst (λ (l : List Item). Contains l item) c.deref.ensures.value ((c.in_ok-refill.ensures.same item).0 n)),
      λ n. (c.in_ok-refill.ensures.same item).1 (subst (λ (l : List Item). Contains l item) (sym c.deref.ensures.value) ((c.in_ok-list_seeds.ensures.listed item).1 n)),
    ))

pub returns-clause-kernel : goal.returns-clause-kernel
returns-clause-kernel g c =
    on_ok_weaker c.close.result
    (λ h. record {
      seeds = c.refill.new.set;
      are = λ item. (
        λ n. (c.in_ok-list_seeds.ensures.listed item).0 (subst (λ (l : List Item). Contains l item) c.deref.ensures.value ((c.in_ok-refill.ensures.same item).0 n)),
        λ n. (c.in_ok-refill.ensures.same item).1 (subst (λ (l : List Item). Contains l item) (sym c.deref.ensures.value) ((c.in_ok-list_seeds.ensures.listed item).1 n)),
      );
      exact = h;
    })
    c.close.ensures.closed

pub returns-clause-counted : goal.returns-clause-counted
returns-clause-counted g c =
    let counted = c.in_ok-refill.ensures.counted in
    let listed = ap (λ (l : List Item). length l) c.deref.ensures.value in
    on_ok_weaker c.close.result
    (λ r some.
    all_links c.args.flat.now c.args.edges.now c.args.rows.now.sets c.args.earleme c.close.new.set
    (c.args.steps.now + length c.close.new.memo) (c.refill.new.steps + length c.close.new.memo) (c.close.new.steps + length c.args.memo.now)
    (rises_moved (c.args.steps.now + length c.close.new.memo) (c.refill.new.steps + length c.close.new.memo) (omega (arith, counted, listed)) (c.in_ok-list_seeds.ensures.links some)) r)
    c.close.ensures.counted

pub close-requires-clause-nulled : goal.close-requires-clause-nulled
close-requires-clause-nulled g c = nulled_rows c.args.flat.now c.args.edges.now c.args.top c.requires.top c.requires.forward c.args.rows.now.sets c.args.earleme c.requires.sets c.requires.earleme
