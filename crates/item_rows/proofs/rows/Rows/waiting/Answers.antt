use Rattle.std.proofs.Common.{◌≡◌, refl, subst, List, Some, Contains, arith}
use Rattle.recognizer_model.specs.declared.Item.{Item}
use Rattle.recognizer_model.specs.Flat.{FlatGrammar}
use Rattle.recognizer_model.specs.Items.{after}
use Rattle.recognizer_model.specs.Counts.{IsListOf}
use Rattle.kernels.specs.Slots.{placed_all}
use Rattle.jagged.specs.Rows.{row_at as list_at}
use Rattle.item_rows.specs.Rows.{row_at}
use Rattle.item_rows.proofs.Holding.{same_flat, in_kernels, list_there, fits, parts_here, items_here}
use Rattle.item_rows.proofs.Noting.{places_here}
use Rattle.item_rows.proofs.rows.Rows.waiting.Goals as goal

pub kernel-kernel-requires : goal.kernel-kernel-requires
kernel-kernel-requires c = in_kernels c.self.inside.dotted.flat c.self.inside.dotted.rules c.self.inside.lists c.self.inside.kernels c.args.self.now c.self.view_is c.args.j c.requires

pub kind-requires : goal.kind-requires
kind-requires c = in_kernels c.self.inside.dotted.flat c.self.inside.dotted.rules c.self.inside.lists c.self.inside.kernels c.args.self.now c.self.view_is c.args.j c.requires

pub waiting-requires-clause-there : goal.waiting-requires-clause-there
waiting-requires-clause-there c = list_there c.self.inside.dotted.flat c.self.inside.dotted.rules c.self.inside.lists c.self.inside.kernels c.args.self.now c.self.view_is c.self.inside.count c.self.invariant.0 c.args.j c.requires c.kernel-kernel.result.begun c.kernel-kernel.ensures.begun

pub at_places-requires-clause-there : goal.at_places-requires-clause-there
at_places-requires-clause-there c = list_there c.self.inside.dotted.flat c.self.inside.dotted.rules c.self.inside.lists c.self.inside.kernels c.args.self.now c.self.view_is c.self.inside.count c.self.invariant.0 c.args.j c.requires c.kernel-kernel.result.begun c.kernel-kernel.ensures.begun

pub overflow_cast-earleme : goal.overflow_cast-earleme
overflow_cast-earleme c = let f = fits c.self.inside.dotted.flat c.self.inside.dotted.rules c.self.inside.lists c.self.inside.kernels c.args.self.now c.self.view_is c.self.inside.count c.self.invariant.0 c.args.j c.requires in omega arith

pub waiting-requires-clause-row : goal.waiting-requires-clause-row
waiting-requires-clause-row c =
    parts_here c.self.inside.dotted.flat c.self.inside.dotted.rules c.self.inside.lists c.self.inside.kernels c.args.self.now c.self.view_is c.self.inside.count c.self.invariant.0 c.args.j c.requires c.kernel-kernel.result.begun c.kernel-kernel.ensures.begun
    (placed_all c.kernel-kernel.result.origins.now c.kernel-kernel.result.slotted.now) (list_at c.self.inside.lists c.kernel-kernel.result.begun) c.kernel-kernel.ensures.packed refl

pub at_places-requires-clause-row : goal.at_places-requires-clause-row
at_places-requires-clause-row c =
    parts_here c.self.inside.dotted.flat c.self.inside.dotted.rules c.self.inside.lists c.self.inside.kernels c.args.self.now c.self.view_is c.self.inside.count c.self.invariant.0 c.args.j c.requires c.kernel-kernel.result.begun c.kernel-kernel.ensures.begun
    (placed_all c.kernel-kernel.result.origins.now c.kernel-kernel.result.slotted.now) (list_at c.self.inside.lists c.kernel-kernel.result.begun) c.kernel-kernel.ensures.packed refl

pub at_places-requires-clause-places : goal.at_places-requires-clause-places
at_places-requires-clause-places c = (
  c.args.symbol,
  places_here c.self.inside.dotted.flat c.self.inside.dotted.rules c.self.inside.lists c.self.inside.kernels _ c.self.invariant.1 c.args.j (in_kernels c.self.inside.dotted.flat c.self.inside.dotted.rules c.self.inside.lists c.self.inside.kernels c.args.self.now c.self.view_is c.args.j c.requires)
      c.kernel-kernel.result.origins.now c.kernel-kernel.result.slotted.now c.kernel-kernel.ensures.slotted c.kernel-kernel.ensures.packed c.kernel-kernel.result.begun c.kernel-kernel.ensures.begun c.known.ensures c.kind.result c.args.symbol c.in-Some.places c.kind.ensures c.in-Some.ensures,
)

pub returns-in-Some : goal.returns-in-Some
returns-in-Some c =
    subst (λ (f : FlatGrammar). IsListOf (λ item. Contains (row_at c.args.self.now.sets c.args.j) item × (after f item ≡ Some c.args.symbol)) c.at_places.result)
    (same_flat c.self.inside.dotted.flat c.self.inside.dotted.rules c.self.inside.lists c.self.inside.kernels c.args.self.now c.self.view_is)
    (subst (λ (l : List Item). IsListOf (λ item. Contains l item × (after c.self.inside.dotted.flat item ≡ Some c.args.symbol)) c.at_places.result)
    (items_here c.self.inside.dotted.flat c.self.inside.dotted.rules c.self.inside.lists c.self.inside.kernels c.args.self.now c.self.view_is c.self.inside.count c.self.invariant.0 c.args.j c.requires c.kernel-kernel.result.begun c.kernel-kernel.ensures.begun
    (placed_all c.kernel-kernel.result.origins.now c.kernel-kernel.result.slotted.now) (list_at c.self.inside.lists c.kernel-kernel.result.begun) c.kernel-kernel.ensures.packed refl) (c.at_places.ensures c.args.symbol
    (places_here c.self.inside.dotted.flat c.self.inside.dotted.rules c.self.inside.lists c.self.inside.kernels _ c.self.invariant.1 c.args.j (in_kernels c.self.inside.dotted.flat c.self.inside.dotted.rules c.self.inside.lists c.self.inside.kernels c.args.self.now c.self.view_is c.args.j c.requires)
    c.kernel-kernel.result.origins.now c.kernel-kernel.result.slotted.now c.kernel-kernel.ensures.slotted c.kernel-kernel.ensures.packed c.kernel-kernel.result.begun c.kernel-kernel.ensures.begun c.known.ensures c.kind.result c.args.symbol c.in-Some.places c.kind.ensures c.in-Some.ensures)))

pub returns-in-None : goal.returns-in-None
returns-in-None c =
    subst (λ (f : FlatGrammar). IsListOf (λ item. Contains (row_at c.args.self.now.sets c.args.j) item × (after f item ≡ Some c.args.symbol)) c.waiting.result)
    (same_flat c.self.inside.dotted.flat c.self.inside.dotted.rules c.self.inside.lists c.self.inside.kernels c.args.self.now c.self.view_is)
    (subst (λ (l : List Item). IsListOf (λ item. Contains l item × (after c.self.inside.dotted.flat item ≡ Some c.args.symbol)) c.waiting.result)
    (items_here c.self.inside.dotted.flat c.self.inside.dotted.rules c.self.inside.lists c.self.inside.kernels c.args.self.now c.self.view_is c.self.inside.count c.self.invariant.0 c.args.j c.requires c.kernel-kernel.result.begun c.kernel-kernel.ensures.begun
    (placed_all c.kernel-kernel.result.origins.now c.kernel-kernel.result.slotted.now) (list_at c.self.inside.lists c.kernel-kernel.result.begun) c.kernel-kernel.ensures.packed refl) c.waiting.ensures)
