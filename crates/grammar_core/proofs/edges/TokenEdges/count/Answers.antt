use Rattle.std.proofs.Common.{length, ap, List, arith}
use Rattle.grammar_model.specs.declared.Edge.{Edge as HeldEdge}
use Rattle.grammar_core.specs.declared.edges.Edge.{Edge}
use Rattle.grammar_core.proofs.Placed.{placed_length}
use Rattle.grammar_core.proofs.edges.TokenEdges.count.Goals as goal

pub returns : goal.returns
returns c =
    let n = placed_length c.self.inside.places.items c.self.inside.edges.items c.self.invariant.0.same in
    let v = ap (λ (l : List HeldEdge). length l) c.self.view_is in
    let l = ap (λ (l : List Edge). length l) c.as_slice.ensures.value in
    omega arith
