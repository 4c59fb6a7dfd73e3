use Rattle.std.proofs.lemmas.Result.{on_ok_weaker}
use Rattle.earley_sets.specs.Tried.{AwaitsEdge}
use Rattle.begun_lists.proofs.Rising.{rises_as}
use Rattle.earley_sets.proofs.Scanning.{has_scanned}
use Rattle.earley_sets.proofs.close.list_by_edge.Goals as goal

pub returns-in-Some-clause-listed : goal.returns-in-Some-clause-listed
returns-in-Some-clause-listed c =
    on_ok_weaker c.list_completed.result
    (has_scanned c.args.flat.now c.args.rows.now.sets c.args.edge c.in-Some.symbol c.in-Some.ensures.some c.known.ensures.flat.differ c.args.next.now.items c.list_completed.new.next.items) c.list_completed.ensures.listed

pub returns-in-Some-clause-links : goal.returns-in-Some-clause-links
returns-in-Some-clause-links c =
    on_ok_weaker c.list_completed.result (rises_as (AwaitsEdge c.args.flat.now c.args.rows.now.sets c.args.edge) (λ item w. (c.in-Some.symbol, c.in-Some.ensures.some, w))) c.list_completed.ensures.links
