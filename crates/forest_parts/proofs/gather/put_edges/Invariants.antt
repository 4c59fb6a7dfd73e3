use Rattle.std.proofs.Common.{◌≤◌}
use Rattle.grammar_model.specs.declared.Edge.{Edge}
use Rattle.forest_parts.specs.declared.parts.Part.{Part}
use Rattle.forest_parts.specs.Parts.{IsEdgeOf}
use Rattle.forest_parts.proofs.Gathering.{Gains, ByFirst}
use Rattle.forest_parts.proofs.gather.put_edges.Given as goal

abbrev pub invariant-loop-edge : goal.invariant-loop-edge
invariant-loop-edge l = Gains (ByFirst (λ (e : Edge) (p : Part). (l.least ≤ e.from) × IsEdgeOf l.recce.flat e p) l.edges l.edge-index) l.initial.parts.items l.parts.items
