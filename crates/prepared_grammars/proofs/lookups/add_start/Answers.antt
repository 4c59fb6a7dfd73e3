use Rattle.prepared_grammars.proofs.Finding.{start_added, start_missing}
use Rattle.prepared_grammars.proofs.lookups.add_start.Goals as goal

pub returns-in_ok-push : goal.returns-in_ok-push
returns-in_ok-push c =
    start_added c.args.starts.now c.args.symbol c.in-Some.start c.args.found.now.items c.push.new.self.items ((c.start_at.ensures c.in-Some.start).0 c.in-Some.is) c.in_ok-push.ensures.items

pub returns-in_default : goal.returns-in_default
returns-in_default c = start_missing c.args.starts.now c.args.symbol c.args.found.now.items (λ k has. c.in_default.not-Some k ((c.start_at.ensures k).1 has))
