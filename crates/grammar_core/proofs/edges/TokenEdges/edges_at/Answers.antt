use Rattle.std.proofs.Common.{◌≡◌, ◌≢◌, ◌<◌, ◌≤◌, ◌+◌, ◌-◌, ◌↔◌, take, drop, length, Contains, sym, ap, ◌∙◌, subst, arith, List, ℕ}
use Rattle.std.specs.Prelude.{slice_index, AllPairs}
use Rattle.grammar_core.specs.Edges.{placed, all_placed, AreOrdered}
use Rattle.grammar_core.specs.declared.edges.Edge.{Edge}
use Rattle.grammar_core.proofs.Placed.{part_is, part_once}
use Rattle.grammar_core.proofs.edges.TokenEdges.edges_at.Goals as goal

pub below-start-requires : goal.below-start-requires
below-start-requires c = subst AreOrdered (sym c.deref.ensures.value) c.self.invariant.0.order

pub below-end-requires : goal.below-end-requires
below-end-requires c = subst AreOrdered (sym c.deref-2.ensures.value) c.self.invariant.0.order

part_of : (c : goal.After-deref-3) → (c.below-start.result ≤ c.below-end.result) × ((e : Edge) → Contains (take (c.below-end.result - c.below-start.result) (drop c.below-start.result c.self.inside.edges.items)) e ↔ Contains (all_placed c.self.inside.places.items c.self.inside.edges.items) (placed c.args.at e))
part_of c =
    let places = c.self.inside.places.items in
    let v = c.deref.ensures.value in
    let w = c.deref-2.ensures.value in
    let one = c.below-start.ensures in
    let two = c.below-end.ensures in
    part_is places c.self.inside.edges.items c.self.inside.long c.self.invariant.0 c.args.at c.below-start.result c.below-end.result
    (subst (λ (l : List ℕ). c.below-start.result ≤ length l) v one.bound) (subst (λ (l : List ℕ). c.below-end.result ≤ length l) w two.bound)
    (subst (λ (l : List ℕ). (k : ℕ) → k < c.below-start.result → slice_index l k < c.args.at) v one.below)
    (subst (λ (l : List ℕ). (k : ℕ) → c.below-start.result ≤ k → k < length l → c.args.at ≤ slice_index l k) v one.above)
    (λ k lt. let h = subst (λ (l : List ℕ). (k : ℕ) → k < c.below-end.result → slice_index l k < c.args.at + 1) w two.below k lt in omega arith)
    (λ k le lt. let h = subst (λ (l : List ℕ). (k : ℕ) → c.below-end.result ≤ k → k < length l → c.args.at + 1 ≤ slice_index l k) w two.above k le lt in omega arith)

pub part-requires-clause-order : goal.part-requires-clause-order
part-requires-clause-order c = (part_of c).0

pub part-requires-clause-bound : goal.part-requires-clause-bound
part-requires-clause-bound c =
    let b = subst (λ (l : List ℕ). c.below-end.result ≤ length l) c.deref-2.ensures.value c.below-end.ensures.bound in
    let s = c.self.invariant.0.same in
    let e = ap (λ (l : List Edge). length l) c.deref-3.ensures.value in
    omega arith

pub returns-clause-once : goal.returns-clause-once
returns-clause-once c =
    let v = c.deref.ensures.value in
    let w = c.deref-2.ensures.value in
    let one = c.below-start.ensures in
    let two = c.below-end.ensures in
    subst (AllPairs (λ a b. a ≢ b)) (sym (c.part.ensures ∙ ap (λ (l : List Edge). take (c.below-end.result - c.below-start.result) (drop c.below-start.result l)) c.deref-3.ensures.value))
    (part_once c.self.inside.places.items c.self.inside.edges.items c.self.inside.long c.self.invariant.0 c.args.at c.below-start.result c.below-end.result
    (part_of c.before).0 (subst (λ (l : List ℕ). c.below-end.result ≤ length l) w two.bound)
    (subst (λ (l : List ℕ). (k : ℕ) → c.below-start.result ≤ k → k < length l → c.args.at ≤ slice_index l k) v one.above)
    (λ k lt. let h = subst (λ (l : List ℕ). (k : ℕ) → k < c.below-end.result → slice_index l k < c.args.at + 1) w two.below k lt in omega arith))

pub returns-clause-exact : goal.returns-clause-exact
returns-clause-exact c e =
    let (le, is) = part_of c.before in
    let same : c.part.result.now ≡ take (c.below-end.result - c.below-start.result) (drop c.below-start.result c.self.inside.edges.items) =
    c.part.ensures ∙ ap (λ (l : List Edge). take (c.below-end.result - c.below-start.result) (drop c.below-start.result l)) c.deref-3.ensures.value in (
      λ h. subst (λ l. Contains l (placed c.args.at e)) c.self.view_is ((is e).0 (subst (λ l. Contains l e) same h)),
      λ h. subst (λ l. Contains l e) (sym same) ((is e).1 (subst (λ l. Contains l (placed c.args.at e)) (sym c.self.view_is) h)),
    )
