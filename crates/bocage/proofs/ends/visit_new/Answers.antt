use Rattle.std.proofs.Common.{◌∙◌, map, sym, arith}
use Rattle.finite_sets.proofs.Lists.{got_at}
use Rattle.bocage.specs.Walk.{IsNew}
use Rattle.bocage.proofs.Visiting.{goes_none, goes_then, ready_at, longer, new_more, new_all}
use Rattle.bocage.proofs.ends.visit_new.Goals as goal

pub loop-node-init : goal.loop-node-init
loop-node-init c = record { few = c.requires.first; goes = goes_none c.args.known.now c.args.found.now (map (λ r. r.now) c.args.table.now.items) c.requires.noted; have = λ n key le lt at end. absurd (omega arith) }

pub visit_here-requires-clause-node : goal.visit_here-requires-clause-node
visit_here-requires-clause-node c = sym (c.in-Some.ensures ∙ c.get_index.ensures.key)

pub visit_here-requires-clause-ready : goal.visit_here-requires-clause-ready
visit_here-requires-clause-ready c end =
    ready_at c.args.known.now c.args.first c.args.found.now c.loop-node.found (map (λ r. r.now) c.args.table.now.items) (map (λ r. r.now) c.loop-node.table.items) c.loop-node.invariant.goes c.requires.nodes
    c.loop-node.node c.in-Some.key c.loop-node.auto.node (sym (c.in-Some.ensures ∙ c.get_index.ensures.key)) end

pub visit_here-requires-clause-noted : goal.visit_here-requires-clause-noted
visit_here-requires-clause-noted c = c.loop-node.invariant.goes.noted

pub loop-node-preserved : goal.loop-node-preserved
loop-node-preserved c =
    let at = sym (c.in-Some.ensures ∙ c.get_index.ensures.key) in
    let below = (got_at c.loop-node.found.keys.keys c.loop-node.node c.in-Some.key c.in-Some.key (sym at)).0 in
    let long = longer (IsNew c.args.known.now) c.loop-node.found.keys.keys c.visit_here.new.found.keys.keys c.in_ok-visit_here.ensures.goes.keys in
    record {
      few = omega arith;
      goes = goes_then c.args.known.now c.args.found.now c.loop-node.found c.visit_here.new.found (map (λ r. r.now) c.args.table.now.items) (map (λ r. r.now) c.loop-node.table.items) (map (λ r. r.now) c.visit_here.new.table.items)
          c.loop-node.invariant.goes c.in_ok-visit_here.ensures.goes;
      have = new_more c.args.known.now c.args.first c.loop-node.node c.in-Some.key c.loop-node.found c.visit_here.new.found (map (λ r. r.now) c.loop-node.table.items) (map (λ r. r.now) c.visit_here.new.table.items)
          at c.in_ok-visit_here.ensures.goes c.in_ok-visit_here.ensures.has c.loop-node.invariant.have;
    }

pub returns-in_default-clause-have : goal.returns-in_default-clause-have
returns-in_default-clause-have c =
    new_all c.args.known.now c.args.first c.loop-node.node c.loop-node.found (map (λ r. r.now) c.loop-node.table.items) (sym (c.in_default.ensures ∙ c.get_index.ensures.key)) c.loop-node.invariant.have
