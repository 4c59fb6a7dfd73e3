use Rattle.std.proofs.Common.{◌≤◌, get_or}
use Rattle.std.proofs.lemmas.List.Elements.{Contains-get_or}
use Rattle.std.proofs.lemmas.Option.{slice_get-get_or}
use Rattle.grammar_model.specs.declared.Edge.{Edge}
use Rattle.forest_parts.specs.declared.parts.Part.{Part}
use Rattle.forest_parts.specs.Parts.{IsEdgeOf}
use Rattle.forest_parts.proofs.Gathering.{no_edge, first_none, first_more, first_all}
use Rattle.forest_parts.proofs.gather.put_edges.Goals as goal

pub loop-edge-init : goal.loop-edge-init
loop-edge-init c = first_none (λ (e : Edge) (p : Part). (c.args.least ≤ e.from) × IsEdgeOf c.args.recce.now.flat e p) c.args.edges.now c.args.parts.now.items

pub put_edge-requires : goal.put_edge-requires
put_edge-requires c = c.requires _ (Contains-get_or c.args.edges.now c.loop-edge.edge-index no_edge c.loop-edge-test.true)

pub loop-edge-preserved : goal.loop-edge-preserved
loop-edge-preserved c =
    first_more (λ (e : Edge) (p : Part). (c.args.least ≤ e.from) × IsEdgeOf c.args.recce.now.flat e p) c.args.edges.now c.loop-edge.edge-index c.args.parts.now.items c.loop-edge.parts.items c.put_edge.new.parts.items
    (get_or c.args.edges.now c.loop-edge.edge-index no_edge) c.loop-edge.invariant (slice_get-get_or c.args.edges.now c.loop-edge.edge-index no_edge c.loop-edge-test.true) c.in_ok-put_edge.ensures

pub returns : goal.returns
returns c = first_all (λ (e : Edge) (p : Part). (c.args.least ≤ e.from) × IsEdgeOf c.args.recce.now.flat e p) c.args.edges.now c.loop-edge.edge-index c.args.parts.now.items c.loop-edge.parts.items c.loop-edge.invariant c.loop-edge-test.false
