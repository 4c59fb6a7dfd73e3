use Rattle.std.proofs.Common.{map}
use Rattle.bocage.specs.Walk.{IsUsedIn, IsNew}
use Rattle.bocage.proofs.Growing.{grows_weaker}
use Rattle.bocage.proofs.Visiting.{goes_then, listed_ready, new_ready, all_visited}
use Rattle.std.proofs.lemmas.Result.{IfOk-from_err}
use Rattle.bocage.proofs.ends.visit_gathered.Goals as goal

pub visit_listed-requires-clause-nodes : goal.visit_listed-requires-clause-nodes
visit_listed-requires-clause-nodes c n h =
    listed_ready c.args.known.now c.args.first (record { keys = c.args.found.now.keys; alternatives = c.args.found.now.alternatives; wholes = c.args.found.now.wholes; causes = c.forget.new.causes }) (map (λ r. r.now) c.args.table.now.items) c.args.nodes.now (record { few = c.requires.going.few; visited = c.requires.going.visited; used = c.requires.going.used; waits = c.requires.going.waits; begun = c.requires.going.begun; top = c.requires.going.top }) c.requires.nodes c.requires.least n h

pub visit_new-requires-clause-nodes : goal.visit_new-requires-clause-nodes
visit_new-requires-clause-nodes c =
    new_ready c.args.known.now c.args.first (record { keys = c.args.found.now.keys; alternatives = c.args.found.now.alternatives; wholes = c.args.found.now.wholes; causes = c.forget.new.causes }) c.visit_listed.new.found (map (λ r. r.now) c.args.table.now.items) (map (λ r. r.now) c.visit_listed.new.table.items) (record { few = c.requires.going.few; visited = c.requires.going.visited; used = c.requires.going.used; waits = c.requires.going.waits; begun = c.requires.going.begun; top = c.requires.going.top }) c.in_ok-visit_listed.ensures.goes c.requires.whole

pub returns-clause-visited : goal.returns-clause-visited
returns-clause-visited c =
    all_visited c.args.known.now c.requires.knows c.args.first c.args.nodes.now (record { keys = c.args.found.now.keys; alternatives = c.args.found.now.alternatives; wholes = c.args.found.now.wholes; causes = c.forget.new.causes }) c.visit_listed.new.found c.visit_new.new.found (map (λ r. r.now) c.args.table.now.items) (map (λ r. r.now) c.visit_listed.new.table.items) (map (λ r. r.now) c.visit_new.new.table.items) (record { few = c.requires.going.few; visited = c.requires.going.visited; used = c.requires.going.used; waits = c.requires.going.waits; begun = c.requires.going.begun; top = c.requires.going.top }) c.requires.nodes
    c.in_ok-visit_listed.ensures.goes c.in_ok-visit_new.ensures.goes c.in_ok-visit_listed.ensures.have c.in_ok-visit_new.ensures.have

pub returns-clause-grows : goal.returns-clause-grows
returns-clause-grows c =
    grows_weaker (IsUsedIn c.args.known.now.written.now c.args.known.now.ranking c.args.known.now.recce.now) (IsNew c.args.known.now) c.args.found.now.keys.keys c.visit_new.new.found.keys.keys (λ key h. h.used)
    (goes_then c.args.known.now (record { keys = c.args.found.now.keys; alternatives = c.args.found.now.alternatives; wholes = c.args.found.now.wholes; causes = c.forget.new.causes }) c.visit_listed.new.found c.visit_new.new.found (map (λ r. r.now) c.args.table.now.items) (map (λ r. r.now) c.visit_listed.new.table.items) (map (λ r. r.now) c.visit_new.new.table.items) c.in_ok-visit_listed.ensures.goes c.in_ok-visit_new.ensures.goes).keys

pub visit_listed-requires-clause-noted : goal.visit_listed-requires-clause-noted
visit_listed-requires-clause-noted c = record { long = c.in_ok-forget.ensures.long; each = λ n g cause at e. absurd (c.in_ok-forget.ensures.none n cause e) }

pub visit_new-requires-clause-noted : goal.visit_new-requires-clause-noted
visit_new-requires-clause-noted c = c.in_ok-visit_listed.ensures.goes.noted

pub returns-in_err-forget-clause-visited : goal.returns-in_err-forget-clause-visited
returns-in_err-forget-clause-visited c = IfOk-from_err _ _ c.from_residual.ensures.0

pub returns-in_err-forget-clause-grows : goal.returns-in_err-forget-clause-grows
returns-in_err-forget-clause-grows c = IfOk-from_err _ _ c.from_residual.ensures.0

pub returns-in_err-visit_listed-clause-visited : goal.returns-in_err-visit_listed-clause-visited
returns-in_err-visit_listed-clause-visited c = IfOk-from_err _ _ c.from_residual-in_err-visit_listed.ensures.0

pub returns-in_err-visit_listed-clause-grows : goal.returns-in_err-visit_listed-clause-grows
returns-in_err-visit_listed-clause-grows c = IfOk-from_err _ _ c.from_residual-in_err-visit_listed.ensures.0

pub returns-in_err-visit_new-clause-visited : goal.returns-in_err-visit_new-clause-visited
returns-in_err-visit_new-clause-visited c = IfOk-from_err _ _ c.from_residual-in_err-visit_new.ensures.0

pub returns-in_err-visit_new-clause-grows : goal.returns-in_err-visit_new-clause-grows
returns-in_err-visit_new-clause-grows c = IfOk-from_err _ _ c.from_residual-in_err-visit_new.ensures.0
