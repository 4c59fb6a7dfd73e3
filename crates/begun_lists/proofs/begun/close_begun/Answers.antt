use Rattle.std.proofs.Common.{arith, inl, inr, refl, ap, subst, length, List, []}
use Rattle.finite_sets.proofs.Lists.{got_item}
use Rattle.recognizer_model.specs.declared.Item.{Item}
use Rattle.begun_lists.specs.Closing.{Follows, Grows}
use Rattle.begun_lists.specs.Tried.{MakesLater}
use Rattle.begun_lists.proofs.Beginning.{still_together, later_origin}
use Rattle.leo_items.proofs.Loops.{closed_init, closed_done, closed_more, got_none}
use Rattle.begun_lists.proofs.Following.{follows_item}
use Rattle.begun_lists.proofs.Following.{no_rows}
use Rattle.begun_lists.proofs.Rising.{rises_moved}
use Rattle.begun_lists.proofs.Trying.{tried_none, tried_more, tried_all, same_later}
use Rattle.begun_lists.proofs.begun.close_begun.Goals as goal

pub loop-k-init : goal.loop-k-init
loop-k-init g c = record {
  closed = closed_init c.args.flat.now (Follows c.args.flat.now [] 0) c.args.set.now c.requires.items;
  origins = c.requires.origins;
  together = c.requires.together;
  counted = tried_none (MakesLater c.args.flat.now) (same_later c.args.flat.now) c.args.set.now c.args.steps.now c.args.steps.now refl;
}

pub returns-in_default-clause-closed : goal.returns-in_default-clause-closed
returns-in_default-clause-closed g c =
    closed_done c.args.flat.now (Follows c.args.flat.now [] 0) c.args.set.now c.loop-k.set c.loop-k.k c.loop-k.invariant.closed
    (got_none c.loop-k.set c.loop-k.k c.in_default.ensures.item)

pub returns-in_default-clause-counted : goal.returns-in_default-clause-counted
returns-in_default-clause-counted g c =
    tried_all (MakesLater c.args.flat.now) (same_later c.args.flat.now) c.loop-k.set c.loop-k.k c.args.steps.now c.loop-k.steps
    (got_none c.loop-k.set c.loop-k.k c.in_default.ensures.item) c.loop-k.invariant.counted

pub list_later-requires-clause-item : goal.list_later-requires-clause-item
list_later-requires-clause-item g c = c.loop-k.invariant.closed.items c.in-Some.item (got_item c.loop-k.set c.loop-k.k c.in-Some.item c.in-Some.ensures.item)

pub list_later-requires-clause-origin : goal.list_later-requires-clause-origin
list_later-requires-clause-origin g c = c.loop-k.invariant.origins c.in-Some.item (got_item c.loop-k.set c.loop-k.k c.in-Some.item c.in-Some.ensures.item)

pub list_later-requires-clause-together : goal.list_later-requires-clause-together
list_later-requires-clause-together g c = c.loop-k.invariant.together

pub loop-k-preserved : goal.loop-k-preserved
loop-k-preserved g c =
    let at = c.in-Some.ensures.item in
    let there = got_item c.loop-k.set c.loop-k.k c.in-Some.item at in
    let is = c.loop-k.invariant.closed.items c.in-Some.item there in
    let zero = c.loop-k.invariant.origins c.in-Some.item there in
    let grows : Grows c.loop-k.set c.add_items.new.set c.list_later.new.next.items = subst (λ next. Grows c.loop-k.set c.add_items.new.set next) c.deref.ensures.value c.in_ok-add_items.ensures.grows in
    let (more, begins) = grows.begins in
    let counted = c.in_ok-add_items.ensures.counted in
    let listed = ap (λ (l : List Item). length l) c.deref.ensures.value in
    record {
      closed = closed_more c.args.flat.now (Follows c.args.flat.now [] 0) c.args.set.now c.loop-k.set c.loop-k.k c.loop-k.invariant.closed
          c.in-Some.item c.list_later.new.next.items c.add_items.new.set at
          (follows_item c.args.flat.now [] 0 c.in-Some.item is (no_rows c.args.flat.now))
          c.in_ok-list_later.ensures.only c.in_ok-list_later.ensures.all grows;
      origins = λ other h. elim ((grows.has other).0 h) [ inl o ↦ c.loop-k.invariant.origins other o | inr n ↦ later_origin c.args.flat.now c.in-Some.item zero other (c.in_ok-list_later.ensures.only other n) ];
      together = still_together c.args.flat.now c.in-Some.item c.loop-k.set c.list_later.new.next.items c.in_ok-list_later.ensures.only c.in_ok-list_later.ensures.all c.add_items.new.set grows c.loop-k.invariant.together;
      counted = tried_more (MakesLater c.args.flat.now) (same_later c.args.flat.now) c.loop-k.set c.add_items.new.set more c.loop-k.k c.in-Some.item
          c.args.steps.now c.loop-k.steps c.add_items.new.steps c.in-Some.ensures.once at begins c.loop-k.invariant.counted
          (rises_moved c.loop-k.steps c.add_items.new.steps (omega (arith, counted, listed)) c.in_ok-list_later.ensures.links);
    }
