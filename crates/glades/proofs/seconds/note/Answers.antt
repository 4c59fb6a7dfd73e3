use Rattle.std.proofs.Common.{◌<◌, [], List, sym, subst}
use Rattle.std.specs.Prelude.{Bool, Option}
use Rattle.glades.specs.Links.{AreKnown}
use Rattle.glades.proofs.Sets.{known_set}
use Rattle.glades.proofs.Walking.{link_there, to_next, one_option, option_in, nearer, first_among}
use Rattle.glades.proofs.seconds.note.Goals as goal

pub second_at-requires : goal.second_at-requires
second_at-requires c = subst (λ n. c.walk.at < n) (sym c.walk.invariant.known.long) c.walk.invariant.within

pub set_second-requires : goal.set_second-requires
set_second-requires c = subst (λ n. c.walk.at < n) (sym c.walk.invariant.known.long) c.walk.invariant.within

pub link_at-requires : goal.link_at-requires
link_at-requires c = link_there c.args.forest.now c.known.ensures c.args.links.now c.requires.links c.walk.at c.walk.invariant.within

pub walk-init : goal.walk-init
walk-init c = record { within = c.requires.node; known = c.requires.known; second = c.requires.second }

pub walk-preserved : goal.walk-preserved
walk-preserved c =
    let o = one_option c.args.forest.now c.known.ensures c.args.links.now c.requires.links c.walk.at c.walk.invariant.within c.link_at.result c.link_at.ensures c.in-Next.next c.in-Next.is in
    record {
      within = option_in c.args.forest.now c.known.ensures c.args.links.now c.requires.links c.walk.at c.walk.invariant.within c.in-Next.next (first_among c.args.forest.now c.known.ensures c.args.links.now c.requires.links c.walk.at c.in-Next.next [] o);
      known = subst (λ (s : List (Option Bool)). AreKnown c.args.forest.now s) (sym c.set_second.ensures) (known_set c.args.forest.now c.walk.seconds c.walk.at c.args.second c.walk.invariant.known c.walk.invariant.second);
      second = to_next c.args.forest.now c.known.ensures c.args.links.now c.requires.links c.walk.at c.walk.invariant.within c.link_at.result c.link_at.ensures c.in-Next.next c.in-Next.is c.args.second c.walk.invariant.second;
    }

pub walk-smaller : goal.walk-smaller
walk-smaller c =
    let o = one_option c.args.forest.now c.known.ensures c.args.links.now c.requires.links c.walk.at c.walk.invariant.within c.link_at.result c.link_at.ensures c.in-Next.next c.in-Next.is in
    nearer c.args.forest.now c.known.ensures c.args.links.now c.requires.links c.walk.at c.walk.invariant.within c.in-Next.next (first_among c.args.forest.now c.known.ensures c.args.links.now c.requires.links c.walk.at c.in-Next.next [] o)

pub returns-in_default : goal.returns-in_default
returns-in_default c = subst (λ (s : List (Option Bool)). AreKnown c.args.forest.now s) (sym c.set_second.ensures) (known_set c.args.forest.now c.walk.seconds c.walk.at c.args.second c.walk.invariant.known c.walk.invariant.second)
