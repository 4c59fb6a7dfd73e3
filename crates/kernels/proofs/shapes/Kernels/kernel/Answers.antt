use Rattle.std.proofs.Common.{◌≡◌, ◌<◌, ◌∙◌, ℕ, List, Some, length, slice_get, sym, subst}
use Rattle.kernels.specs.Slots.{placed_all, AreSlotted}
use Rattle.kernels.proofs.Shaping.{at_kinds, in_kinds, in_origins, slotted_here, packed_here, begun_here}
use Rattle.kernels.proofs.shapes.Kernels.kernel.Goals as goal

pub shape_at-shape-requires : goal.shape_at-shape-requires
shape_at-shape-requires c =
    subst (λ (l : List ℕ). (kind : ℕ) × (slice_get l c.args.j ≡ Some kind) × (kind < length c.self.inside.shapes.keys)) (sym c.deref.ensures.value)
    (at_kinds c.self.inside.shapes.keys c.self.inside.kinds.items c.self.inside.origins c.args.j c.self.invariant (in_kinds c.self.inside.shapes.keys c.self.inside.kinds.items c.self.inside.origins c.args.self.now c.self.invariant c.self.view_is c.args.j c.requires))

pub row-requires : goal.row-requires
row-requires c = in_origins c.self.inside.shapes.keys c.self.inside.kinds.items c.self.inside.origins c.args.self.now c.self.invariant c.self.view_is c.args.j c.requires

pub returns-clause-slotted : goal.returns-clause-slotted
returns-clause-slotted c =
    subst (λ (l : List ℕ). AreSlotted l c.deref-2.result.now) (sym c.row.ensures)
    (subst (AreSlotted _) (sym c.deref-2.ensures.value)
    (slotted_here c.self.inside.shapes.keys c.self.inside.kinds.items c.self.inside.origins c.args.self.now c.self.invariant c.self.view_is c.args.j c.requires c.shape_at-shape.result.now
    (λ kind e. c.shape_at-shape.ensures kind (subst (λ (l : List ℕ). slice_get l c.args.j ≡ Some kind) (sym c.deref.ensures.value) e))))

pub returns-clause-packed : goal.returns-clause-packed
returns-clause-packed c =
    (λ i. placed_all (c.row.ensures i) (c.deref-2.ensures.value i))
    ∙ packed_here c.self.inside.shapes.keys c.self.inside.kinds.items c.self.inside.origins c.args.self.now c.self.invariant c.self.view_is c.args.j c.requires c.shape_at-shape.result.now
    (λ kind e. c.shape_at-shape.ensures kind (subst (λ (l : List ℕ). slice_get l c.args.j ≡ Some kind) (sym c.deref.ensures.value) e))

pub returns-clause-begun : goal.returns-clause-begun
returns-clause-begun c =
    begun_here c.self.inside.shapes.keys c.self.inside.kinds.items c.self.inside.origins c.args.self.now c.self.invariant c.self.view_is c.args.j c.requires c.shape_at-shape.result.now
    (λ kind e. c.shape_at-shape.ensures kind (subst (λ (l : List ℕ). slice_get l c.args.j ≡ Some kind) (sym c.deref.ensures.value) e))
