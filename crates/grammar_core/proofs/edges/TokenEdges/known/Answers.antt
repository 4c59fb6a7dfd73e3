use Rattle.std.proofs.Common.{◌≤◌, List, Contains, sym, subst}
use Rattle.std.specs.Prelude.{AllPairs}
use Rattle.grammar_model.specs.declared.Edge.{Edge as HeldEdge}
use Rattle.grammar_core.proofs.Placed.{placed_bounds, placed_order}
use Rattle.grammar_core.proofs.edges.TokenEdges.known.Goals as goal

pub returns-clause-order : goal.returns-clause-order
returns-clause-order c = subst (AllPairs (λ (a b : HeldEdge). a.from ≤ b.from)) c.self.view_is (placed_order c.self.inside.places.items c.self.inside.edges.items c.self.inside.long c.self.invariant.0)

pub returns-clause-lengths : goal.returns-clause-lengths
returns-clause-lengths c e h = placed_bounds c.self.inside.places.items c.self.inside.edges.items c.self.inside.long c.self.invariant.0 e (subst (λ (l : List HeldEdge). Contains l e) (sym c.self.view_is) h)
