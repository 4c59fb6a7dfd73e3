use Rattle.std.proofs.Common.{◌≡◌, ◌∙◌, List, length, Contains, Some, nat_eq, sym, ap, subst, arith}
use Rattle.std.specs.HashMap.{get}
use Rattle.grammar_model.specs.declared.Edge.{Edge as HeldEdge}
use Rattle.grammar_core.specs.declared.long.LongEdge.{LongEdge}
use Rattle.grammar_core.specs.Long.{AreChained}
use Rattle.grammar_core.proofs.Chains.{chained_more}
use Rattle.grammar_core.proofs.long.LongEdges.push.Goals as goal

pub invariant_of-self-in_default : goal.invariant_of-self-in_default
invariant_of-self-in_default c =
    let edges = c.self.inside.edges.items in
    let newer = get nat_eq c.insert.new.self in
    let link : LongEdge = record { edge = c.args.edge; below = c.copied-below.result } in
    let leads : link.below ≡ get nat_eq c.self.inside.newest c.args.edge.to = c.copied-below.ensures ∙ c.get.ensures.value in
    let number : c.len-number.result ≡ length edges = (let a = c.len-number.ensures in let b = c.self.inside.edges.ok.0 in omega arith) in
    let here : newer c.args.edge.to ≡ Some c.len-number.result = c.in_default.ensures.updates.1 in
    let new = subst (λ (l : List HeldEdge). ¬ Contains l c.args.edge) (sym c.self.view_is) c.requires in
    subst (λ l. AreChained l newer) (sym c.in_ok-push.ensures.items)
    (chained_more edges (get nat_eq c.self.inside.newest) c.self.invariant link new leads newer (here ∙ ap Some number) c.in_default.ensures.updates.2)
