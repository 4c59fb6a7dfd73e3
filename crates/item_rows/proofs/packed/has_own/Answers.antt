use Rattle.std.proofs.Common.{refl}
use Rattle.kernels.proofs.Slotting.{slot_there, slot_absent}
use Rattle.item_rows.proofs.packed.has_own.Goals as goal

pub returns-in-Some : goal.returns-in-Some
returns-in-Some c =
    let (to, from) = slot_there c.args.kernel.origins.now c.args.kernel.slotted.now c.requires c.args.number c.in-Some.slot c.in-Some.ensures.some in
    (λ t. to (c.has_slotted.ensures.0 t), λ h. c.has_slotted.ensures.1 (from h))

pub returns-in-None : goal.returns-in-None
returns-in-None c = (λ t. absurd (cc), λ h. absurd (slot_absent c.args.kernel.origins.now c.args.kernel.slotted.now c.requires c.args.number (c.in-None.ensures.none refl) h))
