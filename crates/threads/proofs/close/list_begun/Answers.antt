use Rattle.std.proofs.Common.{◌≡◌, ◌++◌, ◌∷◌, [], subst}
use Rattle.threads.proofs.Closing.{begun_skips, begun_stays}
use Rattle.threads.proofs.close.list_begun.Goals as goal

pub returns-in_ok-push : goal.returns-in_ok-push
returns-in_ok-push c =
    begun_skips c.args.flat.now c.args.symbol c.args.thread c.args.next.now.items c.list_predicted.new.next.items c.in_ok-list_predicted.ensures c.push.new.self.items
    (subst (λ z. c.push.new.self.items ≡ c.list_predicted.new.next.items ++ z ∷ []) c.advanced.ensures c.in_ok-push.ensures.items) (c.nullable.ensures.0 c.if-nullable.true)

pub returns-else-nullable : goal.returns-else-nullable
returns-else-nullable c =
    begun_stays c.args.flat.now c.args.symbol c.args.thread c.args.next.now.items c.list_predicted.new.next.items c.in_ok-list_predicted.ensures
    (λ n. let t = c.nullable.ensures.1 n in let f = c.if-nullable.false in absurd (cc))
