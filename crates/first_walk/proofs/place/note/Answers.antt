use Rattle.std.proofs.Common.{length, refl}
use Rattle.first_walk.proofs.Giving.{noted_some, noted_none, some_by, none_by}
use Rattle.first_walk.proofs.place.note.Goals as goal

pub returns-in_ok-push : goal.returns-in_ok-push
returns-in_ok-push c =
    noted_some c.args.end c.args.tops.now c.args.items.now c.args.given.now c.push.new.self (some_by c.is_empty.result (length c.args.items.now) c.is_empty.ensures c.if-not-is_empty.true) c.in_ok-push.ensures.ok

pub returns-else-not-is_empty : goal.returns-else-not-is_empty
returns-else-not-is_empty c =
    noted_none c.args.end c.args.tops.now c.args.items.now c.args.given.now c.args.given.now (none_by c.is_empty.result (length c.args.items.now) c.is_empty.ensures c.if-not-is_empty.false) refl
