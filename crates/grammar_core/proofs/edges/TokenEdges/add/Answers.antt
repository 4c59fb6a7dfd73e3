use Rattle.std.proofs.Common.{◌∙◌, subst, refl, List, Contains}
use Rattle.grammar_model.specs.declared.Edge.{Edge as HeldEdge}
use Rattle.grammar_core.specs.Edges.{all_placed}
use Rattle.grammar_core.specs.Latest.{latest_at}
use Rattle.grammar_core.proofs.Newest.{edge_from, latest_as, all_kept, view_more, one_more}
use Rattle.grammar_core.proofs.edges.TokenEdges.add.Goals as goal

pub invariant_of-self : goal.invariant_of-self
invariant_of-self c =
    let all = all_placed c.self.inside.places.items c.self.inside.edges.items in
    (c.self.invariant.0, latest_as all all (latest_at c.self.inside.latest) (latest_at c.reserve.new.self) refl c.in_err-reserve.ensures.same c.self.invariant.1)

pub push_all-requires-clause-new : goal.push_all-requires-clause-new
push_all-requires-clause-new c lt l =
    let x = edge_from c.args.t c.args.at c.args.length in
    c.requires.new (subst (λ (h : List HeldEdge). Contains h x) c.self.view_is ((c.self.invariant.0.long x).0 l).0)

pub invariant_of-self-in_err-push_all : goal.invariant_of-self-in_err-push_all
invariant_of-self-in_err-push_all c =
    let e = c.in_err-push_all.ensures.err in
    all_kept c.self.inside.places.items c.push_all.new.places.items c.self.inside.edges.items c.push_all.new.edges.items c.self.inside.long c.push_all.new.long
    (latest_at c.self.inside.latest) (latest_at c.reserve.new.self) e.0 e.1 e.2 c.in_ok-reserve.ensures.same c.self.invariant

pub invariant_of-self-2 : goal.invariant_of-self-2
invariant_of-self-2 c =
    one_more c.self.inside.places.items c.self.inside.edges.items c.self.inside.long c.args.self.now (latest_at c.self.inside.latest) c.self.view_is c.self.invariant
    c.args.t c.args.at c.args.length c.push_all.new.places.items c.push_all.new.edges.items c.in_ok-push_all.ensures.places c.in_ok-push_all.ensures.edges
    c.push_all.new.long (latest_at c.put.new.self) c.in_ok-push_all.ensures.long c.put.ensures.here
    (λ a b short apart. c.put.ensures.others a b short apart ∙ c.in_ok-reserve.ensures.same a b)
    c.requires.order c.requires.place c.requires.some c.requires.short c.requires.new

pub returns-clause-ok : goal.returns-clause-ok
returns-clause-ok c =
    view_more c.self.inside.places.items c.self.inside.edges.items c.self.inside.long c.args.self.now (latest_at c.self.inside.latest) c.self.view_is c.self.invariant
    c.args.t c.args.at c.args.length c.push_all.new.places.items c.push_all.new.edges.items c.in_ok-push_all.ensures.places c.in_ok-push_all.ensures.edges
