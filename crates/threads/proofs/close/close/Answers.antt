use Rattle.std.proofs.Common.{◌∙◌, subst}
use Rattle.finite_sets.proofs.Lists.{got_item}
use Rattle.threads.specs.Closing.{Grows}
use Rattle.threads.proofs.Closing.{closed_init, closed_done, closed_more}
use Rattle.threads.proofs.Listing.{got_none}
use Rattle.threads.proofs.close.close.Goals as goal

pub loop-k-init : goal.loop-k-init
loop-k-init c = closed_init c.args.flat.now c.args.parts.now c.args.set.now.keys c.requires.set

pub returns-in_default-clause-closed : goal.returns-in_default-clause-closed
returns-in_default-clause-closed c =
    closed_done c.args.flat.now c.args.parts.now c.args.set.now.keys c.loop-k.set.keys c.loop-k.k c.loop-k.invariant
    (got_none c.loop-k.set.keys c.loop-k.k (c.in_default.ensures ∙ c.get_index.ensures.key))

pub list_next-requires-clause-thread : goal.list_next-requires-clause-thread
list_next-requires-clause-thread c = c.loop-k.invariant.threads c.in-Some.thread (got_item c.loop-k.set.keys c.loop-k.k c.in-Some.thread (c.in-Some.ensures ∙ c.get_index.ensures.key))

pub loop-k-preserved : goal.loop-k-preserved
loop-k-preserved c =
    closed_more c.args.flat.now c.args.parts.now c.args.set.now.keys c.loop-k.set.keys c.loop-k.k c.loop-k.invariant
    c.in-Some.thread c.list_next.new.next.items c.add_threads.new.set.keys (c.in-Some.ensures ∙ c.get_index.ensures.key)
    c.in_ok-list_next.ensures
    (subst (λ next. Grows c.loop-k.set.keys c.add_threads.new.set.keys next) c.deref.ensures.value c.in_ok-add_threads.ensures)
