use Rattle.std.proofs.Common.{◌<◌, ◌∙◌, [], false, true, Some, sym, ap, subst}
use Rattle.glades.proofs.Walking.{link_there, ends, forks, from_next, one_option, option_in, nearer, first_among}
use Rattle.glades.proofs.seconds.look.Goals as goal

pub second_at-requires : goal.second_at-requires
second_at-requires c = subst (λ n. c.walk.at < n) (sym c.requires.known.long) c.walk.invariant.within

pub link_at-requires : goal.link_at-requires
link_at-requires c = link_there c.args.forest.now c.known.ensures c.args.links.now c.requires.links c.walk.at c.walk.invariant.within

pub walk-init : goal.walk-init
walk-init c = record { within = c.requires.node; back = λ b h. h }

pub returns-in-Some : goal.returns-in-Some
returns-in-Some c = c.walk.invariant.back c.in-Some.second (c.requires.known.known c.walk.at c.in-Some.second (c.second_at.ensures ∙ ap Some c.in-Some.is))

pub returns-in-End : goal.returns-in-End
returns-in-End c = c.walk.invariant.back false (ends c.args.forest.now c.known.ensures c.args.links.now c.requires.links c.walk.at c.walk.invariant.within c.link_at.result c.link_at.ensures c.in-End.is)

pub returns-in-Fork : goal.returns-in-Fork
returns-in-Fork c =
    c.walk.invariant.back true (forks c.args.forest.now c.known.ensures c.args.links.now c.requires.links c.walk.at c.walk.invariant.within c.link_at.result c.link_at.ensures _ _ c.in-Fork.is)

pub walk-preserved : goal.walk-preserved
walk-preserved c =
    let o = one_option c.args.forest.now c.known.ensures c.args.links.now c.requires.links c.walk.at c.walk.invariant.within c.link_at.result c.link_at.ensures c.in-Next.next c.in-Next.is in
    record {
      within = option_in c.args.forest.now c.known.ensures c.args.links.now c.requires.links c.walk.at c.walk.invariant.within c.in-Next.next (first_among c.args.forest.now c.known.ensures c.args.links.now c.requires.links c.walk.at c.in-Next.next [] o);
      back = λ b h. c.walk.invariant.back b (from_next c.args.forest.now c.known.ensures c.args.links.now c.requires.links c.walk.at c.walk.invariant.within c.link_at.result c.link_at.ensures c.in-Next.next c.in-Next.is b h);
    }

pub walk-smaller : goal.walk-smaller
walk-smaller c =
    let o = one_option c.args.forest.now c.known.ensures c.args.links.now c.requires.links c.walk.at c.walk.invariant.within c.link_at.result c.link_at.ensures c.in-Next.next c.in-Next.is in
    nearer c.args.forest.now c.known.ensures c.args.links.now c.requires.links c.walk.at c.walk.invariant.within c.in-Next.next (first_among c.args.forest.now c.known.ensures c.args.links.now c.requires.links c.walk.at c.in-Next.next [] o)
