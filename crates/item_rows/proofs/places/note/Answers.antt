use Rattle.std.proofs.Common.{◌≡◌, ◌⊎◌, sym, subst, ℕ, Some, slice_get}
use Rattle.std.specs.declared.vec.Vec.{Vec}
use Rattle.std.specs.declared.alloc.Global.{Global}
use Rattle.shared_lists.specs.declared.places.Places.{Places}
use Rattle.shared_lists.specs.Placed.{HasPlaces}
use Rattle.item_rows.specs.Noted.{ArePlacesNoted}
use Rattle.item_rows.proofs.Noting.{noted_put}
use Rattle.item_rows.proofs.places.note.Goals as goal

pub returns-then-not-is_due : goal.returns-then-not-is_due
returns-then-not-is_due c =
    subst (λ (b : Vec (Vec Places Global) Global). ArePlacesNoted c.args.dotted.now.flat c.args.dotted.now.rules c.args.lists.now c.args.kernels.now b.items) (sym c.is_due.ensures) c.requires.noted

pub returns-in-Ok : goal.returns-in-Ok
returns-in-Ok c =
    noted_put c.args.dotted.now.flat c.args.dotted.now.rules c.args.lists.now c.args.kernels.now _ c.requires.noted c.args.j c.requires.there c.kernel-kernel.result.origins.now c.kernel-kernel.result.slotted.now c.kernel-kernel.ensures.slotted c.kernel-kernel.ensures.packed
    c.kernel-kernel.result.begun c.kernel-kernel.ensures.begun c.kind-kind.result c.kind-kind.ensures c.list-list.result.now c.list-list.ensures c.in-Ok.block.items c.in-Ok.ensures _
    (subst (λ (b : Vec (Vec Places Global) Global). (k x : ℕ) (p : Places) → HasPlaces c.put-put.new.self.blocks.items k x p → HasPlaces b.items k x p ⊎ ((k ≡ c.kind-kind.result) × (slice_get c.in-Ok.block.items x ≡ Some p))) c.is_due.ensures c.put-put.ensures)

pub returns-in_default : goal.returns-in_default
returns-in_default c =
    subst (λ (b : Vec (Vec Places Global) Global). ArePlacesNoted c.args.dotted.now.flat c.args.dotted.now.rules c.args.lists.now c.args.kernels.now b.items) (sym c.is_due.ensures) c.requires.noted
