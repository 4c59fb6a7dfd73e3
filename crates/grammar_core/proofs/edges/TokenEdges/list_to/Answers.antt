use Rattle.std.proofs.Common.{◌≡◌, ◌≢◌, ◌∙◌, ◌-◌, ◌↔◌, ◌⊎◌, List, Contains, ap, sym, subst, arith}
use Rattle.std.specs.Prelude.{AllPairs}
use Rattle.std.specs.declared.vec.Vec.{Vec}
use Rattle.std.specs.declared.alloc.Global.{Global}
use Rattle.grammar_model.specs.declared.Edge.{Edge as HeldEdge}
use Rattle.grammar_core.specs.Edges.{placed, IsShortTo}
use Rattle.grammar_core.proofs.Listing.{none_there, none_once, short_apart, listed_first, listed_all}
use Rattle.grammar_core.proofs.edges.TokenEdges.list_to.Goals.{then-place-gt0+in_ok-list_short, else-place-gt0}
use Rattle.grammar_core.proofs.edges.TokenEdges.list_to.Goals as goal

pub list_short-requires-clause-once : goal.list_short-requires-clause-once
list_short-requires-clause-once c = none_once c.clear.new.self.items c.clear.ensures.items

pub list_short-requires-clause-apart : goal.list_short-requires-clause-apart
list_short-requires-clause-apart c e h = absurd (none_there c.clear.new.self.items c.clear.ensures.items e h)

pub list_to-requires-clause-once : goal.list_to-requires-clause-once
list_to-requires-clause-once c = elim c.if-place-gt0.branch [
  | then-place-gt0+in_ok-list_short w ↦ subst (λ (v : Vec HeldEdge Global). AllPairs (λ (d e : HeldEdge). d ≢ e) v.items) (sym w.edges-is) w.in_ok-list_short.ensures.once
  | else-place-gt0 w ↦ none_once c.if-place-gt0.edges.items (ap (λ (v : Vec HeldEdge Global). v.items) w.edges-is ∙ c.clear.ensures.items)
]

pub list_to-requires-clause-apart : goal.list_to-requires-clause-apart
list_to-requires-clause-apart c e h = elim c.if-place-gt0.branch [
  | then-place-gt0+in_ok-list_short w ↦
      short_apart c.self.inside.places.items c.self.inside.edges.items c.self.inside.long c.self.invariant.0 c.args.place w.edges_at.result.now c.clear.new.self.items c.if-place-gt0.edges.items c.clear.ensures.items
      (λ x. subst (λ (v : Vec HeldEdge Global). Contains v.items x ↔ (Contains c.clear.new.self.items x ⊎ IsShortTo w.edges_at.result.now c.args.place x)) (sym w.edges-is) (w.in_ok-list_short.ensures.listed x)) e h
  | else-place-gt0 w ↦ absurd (none_there c.if-place-gt0.edges.items (ap (λ (v : Vec HeldEdge Global). v.items) w.edges-is ∙ c.clear.ensures.items) e h)
]

pub returns-clause-exact : goal.returns-clause-exact
returns-clause-exact c e =
    let places = c.self.inside.places.items in
    let edges = c.self.inside.edges.items in
    let long = c.self.inside.long in
    let mid = c.if-place-gt0.edges.items in
    let new = c.list_to.new.edges.items in
    subst (λ (l : List HeldEdge). Contains new e ↔ (Contains l e × (e.to ≡ c.args.place))) c.self.view_is (elim c.if-place-gt0.branch [
      | then-place-gt0+in_ok-list_short w ↦
          listed_all places edges long c.self.invariant.0 c.args.place w.edges_at.result.now c.clear.new.self.items mid new w.if-place-gt0.true c.clear.ensures.items
          (λ x. subst (λ (l : List HeldEdge). Contains w.edges_at.result.now x ↔ Contains l (placed (c.args.place - 1) x)) (sym c.self.view_is) (w.edges_at.ensures.exact x))
          (λ x. subst (λ (v : Vec HeldEdge Global). Contains v.items x ↔ (Contains c.clear.new.self.items x ⊎ IsShortTo w.edges_at.result.now c.args.place x)) (sym w.edges-is) (w.in_ok-list_short.ensures.listed x))
          c.in_ok-list_to.ensures.listed e
      | else-place-gt0 w ↦
          listed_first places edges long c.self.invariant.0 c.args.place mid new (let f = w.if-place-gt0.false in omega arith) (ap (λ (v : Vec HeldEdge Global). v.items) w.edges-is ∙ c.clear.ensures.items) c.in_ok-list_to.ensures.listed e
    ])
