use Rattle.std.proofs.Common.{arith}
use Rattle.std.specs.Prelude.{slice_index_or}
use Rattle.std.proofs.lemmas.Option.{slice_get_within, slice_get-get_or}
use Rattle.finite_sets.proofs.Members.{contains_from}
use Rattle.finite_sets.proofs.Lists.{get_among}
use Rattle.tree_iter.proofs.jump.Guide.node_for.Goals as goal

pub fits-requires : goal.fits-requires
fits-requires c =
    let xs = c.args.nodes.now in
    let n = slice_index_or c.args.nodes.now c.loop-k.k 0 in
    c.requires n (contains_from xs n (get_among xs c.loop-k.k n (slice_get-get_or xs c.loop-k.k 0 c.loop-k-test.true)))

pub returns-clause-told : goal.returns-clause-told
returns-clause-told c = λ step row last at n told.
    let within = slice_get_within c.args.nodes.now at n told.there in
    let end = c.loop-k-test.false in
    absurd (c.loop-k.invariant step row at n last (omega arith) told.there told.told)
