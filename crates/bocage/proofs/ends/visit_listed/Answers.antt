use Rattle.std.proofs.Common.{List, ℕ, Contains, map, sym, subst}
use Rattle.std.proofs.lemmas.List.Elements.{Contains-get_or}
use Rattle.std.proofs.lemmas.List.{take_all}
use Rattle.finite_sets.proofs.Lists.{Contains-none}
use Rattle.bocage.proofs.Visiting.{goes_none, still_ready, listed_more}
use Rattle.bocage.proofs.ends.visit_listed.Goals as goal

pub loop-node-init : goal.loop-node-init
loop-node-init c = record { goes = goes_none c.args.known.now c.args.found.now (map (λ r. r.now) c.args.table.now.items) c.requires.noted; have = λ n key h e. absurd (Contains-none n h) }

pub visit-requires-clause-node : goal.visit-requires-clause-node
visit-requires-clause-node c =
    still_ready c.args.known.now c.args.found.now c.loop-node.found (map (λ r. r.now) c.args.table.now.items) (map (λ r. r.now) c.loop-node.table.items) c.loop-node.invariant.goes _
    (c.requires.nodes _ (Contains-get_or c.args.nodes.now c.loop-node.node-index 0 c.loop-node-test.true))

pub visit-requires-clause-noted : goal.visit-requires-clause-noted
visit-requires-clause-noted c = c.loop-node.invariant.goes.noted

pub loop-node-preserved : goal.loop-node-preserved
loop-node-preserved c =
    let (goes, have) = listed_more c.args.known.now c.args.nodes.now c.loop-node.node-index c.loop-node-test.true c.args.found.now c.loop-node.found c.visit.new.found
    (map (λ r. r.now) c.args.table.now.items) (map (λ r. r.now) c.loop-node.table.items) (map (λ r. r.now) c.visit.new.table.items) c.loop-node.invariant.goes c.loop-node.invariant.have c.in_ok-visit.ensures in
    record { goes = goes; have = have }

pub returns-clause-have : goal.returns-clause-have
returns-clause-have c n key h e = c.loop-node.invariant.have n key (subst (λ (l : List ℕ). Contains l n) (sym (take_all c.loop-node.node-index c.args.nodes.now c.loop-node-test.false)) h) e
