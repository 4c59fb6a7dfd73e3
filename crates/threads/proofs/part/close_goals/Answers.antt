use Rattle.std.proofs.Common.{◌∙◌, ap, slice_get}
use Rattle.threads.proofs.Listing.{got_none}
use Rattle.threads.proofs.Goals.{lefts_init, lefts_done, lefts_next}
use Rattle.threads.proofs.Ordered.{lefts_of_part}
use Rattle.threads.proofs.part.close_goals.Goals as goal

pub loop-k-init : goal.loop-k-init
loop-k-init c = lefts_init c.args.flat.now c.args.row.now c.args.goals.now.items

pub loop-k-preserved : goal.loop-k-preserved
loop-k-preserved c =
    lefts_next c.args.flat.now c.args.row.now c.args.goals.now.items c.loop-k.goals.items c.loop-k.k c.loop-k.invariant c.in-Some.goal c.add_lefts.new.goals.items
    (c.in-Some.ensures ∙ ap (λ l. slice_get l c.loop-k.k) c.deref.ensures.value) (lefts_of_part c.args.flat.now c.args.row.now c.args.ordered.now c.waiting.result.now c.in-Some.goal c.requires.order c.waiting.ensures c.loop-k.goals.items c.add_lefts.new.goals.items c.in_ok-add_lefts.ensures)

pub returns-in_default-clause-lefts : goal.returns-in_default-clause-lefts
returns-in_default-clause-lefts c =
    lefts_done c.args.flat.now c.args.row.now c.args.goals.now.items c.loop-k.goals.items c.loop-k.k c.loop-k.invariant
    (got_none c.loop-k.goals.items c.loop-k.k (c.in_default.ensures ∙ ap (λ l. slice_get l c.loop-k.k) c.deref.ensures.value))

pub add_lefts-requires : goal.add_lefts-requires
add_lefts-requires c th h = c.requires.rules th ((c.requires.order.same th).0 ((c.waiting.ensures th).0 h).0)
