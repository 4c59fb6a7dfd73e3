use Rattle.std.proofs.Common.{arith, ◌+◌, inl, inr, refl, ap, subst, length, List, [], Contains, ◌↔◌, ◌⊎◌}
use Rattle.finite_sets.proofs.Lists.{Contains-none, got_item}
use Rattle.recognizer_model.specs.declared.Item.{Item}
use Rattle.leo_items.proofs.Chains.{no_more, more_on}
use Rattle.begun_lists.specs.Closing.{GoesOn, Grows}
use Rattle.earley_sets.specs.Tried.{MakesLink}
use Rattle.leo_items.proofs.Loops.{closed_init, closed_done, closed_more, got_none}
use Rattle.begun_lists.proofs.Following.{follows_item}
use Rattle.begun_lists.proofs.Rising.{rises_moved}
use Rattle.begun_lists.proofs.Trying.{tried_none, tried_more, tried_all}
use Rattle.earley_sets.proofs.Trying.{same_maker}
use Rattle.earley_sets.proofs.Twice.{one_none, one_more, one_all}
use Rattle.earley_sets.proofs.close.close.Goals as goal

pub loop-k-init : goal.loop-k-init
loop-k-init g c = record {
  closed = closed_init c.args.flat.now (GoesOn c.args.flat.now c.args.rows.now.sets c.args.earleme) c.args.set.now c.requires.items;
  twice = one_none c.args.flat.now c.args.rows.now.sets c.args.earleme c.args.set.now;
  memo = no_more c.args.flat.now c.args.rows.now.sets c.args.memo.now c.requires.memo;
  counted = tried_none (MakesLink c.args.flat.now c.args.rows.now.sets c.args.earleme) (same_maker c.args.flat.now c.args.rows.now.sets c.args.earleme) c.args.set.now (c.args.steps.now + length c.args.memo.now) (c.args.steps.now + length c.args.memo.now) refl;
}

pub returns-in_default-clause-closed : goal.returns-in_default-clause-closed
returns-in_default-clause-closed g c =
    closed_done c.args.flat.now (GoesOn c.args.flat.now c.args.rows.now.sets c.args.earleme) c.args.set.now c.loop-k.set c.loop-k.k c.loop-k.invariant.closed
    (got_none c.loop-k.set c.loop-k.k c.in_default.ensures.item)

pub returns-in_default-clause-counted : goal.returns-in_default-clause-counted
returns-in_default-clause-counted g c =
    tried_all (MakesLink c.args.flat.now c.args.rows.now.sets c.args.earleme) (same_maker c.args.flat.now c.args.rows.now.sets c.args.earleme) c.loop-k.set c.loop-k.k (c.args.steps.now + length c.loop-k.memo) (c.loop-k.steps + length c.args.memo.now)
    (got_none c.loop-k.set c.loop-k.k c.in_default.ensures.item) c.loop-k.invariant.counted

pub returns-in_default-clause-twice : goal.returns-in_default-clause-twice
returns-in_default-clause-twice g c =
    one_all c.args.flat.now c.args.rows.now.sets c.args.earleme c.loop-k.set c.loop-k.k (got_none c.loop-k.set c.loop-k.k c.in_default.ensures.item) c.loop-k.twice c.loop-k.invariant.twice

pub list_next-requires-clause-item : goal.list_next-requires-clause-item
list_next-requires-clause-item g c = c.loop-k.invariant.closed.items c.in-Some.item (got_item c.loop-k.set c.loop-k.k c.in-Some.item c.in-Some.ensures.item)

pub loop-k-preserved : goal.loop-k-preserved
loop-k-preserved g c =
    let at = c.in-Some.ensures.item in
    let is = c.loop-k.invariant.closed.items c.in-Some.item (got_item c.loop-k.set c.loop-k.k c.in-Some.item at) in
    let grows : Grows c.loop-k.set c.add_items.new.set c.list_next.new.next.items = subst (λ next. Grows c.loop-k.set c.add_items.new.set next) c.deref.ensures.value c.in_ok-add_items.ensures.grows in
    let (more, begins) = grows.begins in
    let goes : (other : Item) → Contains c.list_next.new.next.items other ↔ (Contains [] other ⊎ GoesOn c.args.flat.now c.args.rows.now.sets c.args.earleme c.in-Some.item other) =
    subst (λ (old : List Item). (other : Item) → Contains c.list_next.new.next.items other ↔ (Contains old other ⊎ GoesOn c.args.flat.now c.args.rows.now.sets c.args.earleme c.in-Some.item other)) c.clear.ensures.items c.in_ok-goes.ensures.listed
    in
    let noted = c.list_next.ensures.counted in
    let counted = c.in_ok-add_items.ensures.counted in
    let listed = ap (λ (l : List Item). length l) c.deref.ensures.value in
    let empty = ap (λ (l : List Item). length l) c.clear.ensures.items in
    record {
      closed = closed_more c.args.flat.now (GoesOn c.args.flat.now c.args.rows.now.sets c.args.earleme) c.args.set.now c.loop-k.set c.loop-k.k c.loop-k.invariant.closed
          c.in-Some.item c.list_next.new.next.items c.add_items.new.set at
          (λ other (f, behind). follows_item c.args.flat.now c.args.rows.now.sets c.args.earleme c.in-Some.item is c.requires.rows.are other f)
          (λ other n. elim ((goes other).0 n) [ inl none ↦ absurd (Contains-none other none) | inr f ↦ f ])
          (λ other f. inr ((goes other).1 (inr f)))
          grows;
      twice = one_more c.args.flat.now c.args.rows.now.sets c.args.earleme c.loop-k.set c.add_items.new.set more c.loop-k.k c.in-Some.item at begins c.loop-k.twice c.in_ok-goes.goes c.either-twice.result
          c.loop-k.invariant.twice c.in_ok-goes.ensures.twice c.either-twice.ensures;
      memo = more_on c.args.flat.now c.args.rows.now.sets c.args.memo.now c.loop-k.memo c.list_next.new.memo c.loop-k.invariant.memo c.list_next.ensures.memo;
      counted = tried_more (MakesLink c.args.flat.now c.args.rows.now.sets c.args.earleme) (same_maker c.args.flat.now c.args.rows.now.sets c.args.earleme) c.loop-k.set c.add_items.new.set more c.loop-k.k c.in-Some.item
          (c.args.steps.now + length c.list_next.new.memo) (c.list_next.new.steps + length c.args.memo.now) (c.add_items.new.steps + length c.args.memo.now)
          c.in-Some.ensures.once at begins
          (rises_moved (c.args.steps.now + length c.list_next.new.memo) (c.list_next.new.steps + length c.args.memo.now) (omega (arith, noted)) c.loop-k.invariant.counted)
          (rises_moved (c.list_next.new.steps + length c.args.memo.now) (c.add_items.new.steps + length c.args.memo.now) (omega (arith, counted, listed, empty)) c.in_ok-goes.ensures.links);
    }

pub list_next-requires-clause-memo : goal.list_next-requires-clause-memo
list_next-requires-clause-memo g c = c.loop-k.invariant.memo.is

pub returns-in_err-goes-clause-memo : goal.returns-in_err-goes-clause-memo
returns-in_err-goes-clause-memo g c = more_on c.args.flat.now c.args.rows.now.sets c.args.memo.now c.loop-k.memo c.list_next.new.memo c.loop-k.invariant.memo c.list_next.ensures.memo

pub returns-in_err-add_items-clause-memo : goal.returns-in_err-add_items-clause-memo
returns-in_err-add_items-clause-memo g c = more_on c.args.flat.now c.args.rows.now.sets c.args.memo.now c.loop-k.memo c.list_next.new.memo c.loop-k.invariant.memo c.list_next.ensures.memo

pub unreachable-requires : goal.unreachable-requires
unreachable-requires g c =
    let len = c.len-len.ensures.len in
    let small = c.len-len.ensures.small in
    let within = c.loop-k.invariant.closed.within in
    let end = c.loop-k-test.false in
    omega (arith, len, small, within, end)
