use Rattle.std.proofs.Common.{[], ◌∷◌, true, subst}
use Rattle.glade_laws.specs.Walks.{HasSecond}
use Rattle.glades.proofs.Walking.{not_end, one_option, two_options, option_in, first_among, second_among, to_next}
use Rattle.glades.proofs.shapes.course_at.Goals as goal

pub unreachable-requires : goal.unreachable-requires
unreachable-requires c = not_end c.args.forest.now c.known.ensures c.args.links.now c.requires.links c.args.node c.requires.node c.link_at.result c.link_at.ensures c.in-End.is c.requires.second

pub has_second-requires-clause-node : goal.has_second-requires-clause-node
has_second-requires-clause-node c =
    let (more, e) = two_options c.args.forest.now c.known.ensures c.args.links.now c.requires.links c.args.node c.requires.node c.link_at.result c.link_at.ensures c.in-Fork.next c.in-Fork.fork c.in-Fork.is in
    option_in c.args.forest.now c.known.ensures c.args.links.now c.requires.links c.args.node c.requires.node c.in-Fork.next (first_among c.args.forest.now c.known.ensures c.args.links.now c.requires.links c.args.node c.in-Fork.next (c.in-Fork.fork ∷ more) e)

pub returns-in-Next-clause-course : goal.returns-in-Next-clause-course
returns-in-Next-clause-course c =
    let e = one_option c.args.forest.now c.known.ensures c.args.links.now c.requires.links c.args.node c.requires.node c.link_at.result c.link_at.ensures c.in-Next.next c.in-Next.is in (
      [],
      e,
      option_in c.args.forest.now c.known.ensures c.args.links.now c.requires.links c.args.node c.requires.node c.in-Next.next (first_among c.args.forest.now c.known.ensures c.args.links.now c.requires.links c.args.node c.in-Next.next [] e),
      to_next c.args.forest.now c.known.ensures c.args.links.now c.requires.links c.args.node c.requires.node c.link_at.result c.link_at.ensures c.in-Next.next c.in-Next.is true c.requires.second,
    )

pub returns-then-has_second-clause-course : goal.returns-then-has_second-clause-course
returns-then-has_second-clause-course c =
    let (more, e) = two_options c.args.forest.now c.known.ensures c.args.links.now c.requires.links c.args.node c.requires.node c.link_at.result c.link_at.ensures c.in-Fork.next c.in-Fork.fork c.in-Fork.is in (
      c.in-Fork.fork ∷ more,
      e,
      option_in c.args.forest.now c.known.ensures c.args.links.now c.requires.links c.args.node c.requires.node c.in-Fork.next (first_among c.args.forest.now c.known.ensures c.args.links.now c.requires.links c.args.node c.in-Fork.next (c.in-Fork.fork ∷ more) e),
      subst (HasSecond c.args.forest.now c.in-Fork.next) c.if-has_second.true c.has_second.ensures.second,
    )

pub returns-else-has_second-clause-course : goal.returns-else-has_second-clause-course
returns-else-has_second-clause-course c =
    let (more, e) = two_options c.args.forest.now c.known.ensures c.args.links.now c.requires.links c.args.node c.requires.node c.link_at.result c.link_at.ensures c.in-Fork.next c.in-Fork.fork c.in-Fork.is in (
      c.in-Fork.next,
      more,
      e,
      option_in c.args.forest.now c.known.ensures c.args.links.now c.requires.links c.args.node c.requires.node c.in-Fork.fork (second_among c.args.forest.now c.known.ensures c.args.links.now c.requires.links c.args.node c.in-Fork.next c.in-Fork.fork more e),
      subst (HasSecond c.args.forest.now c.in-Fork.next) c.if-has_second.false c.has_second.ensures.second,
    )
