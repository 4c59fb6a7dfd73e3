use Rattle.std.proofs.Common.{subst, arith}
use Rattle.kernels.specs.Slots.{Rises}
use Rattle.kernels.proofs.Guessing.{placed_same, placed_slotted, one_fits}
use Rattle.kernels.proofs.guess.fits.Goals as goal

pub returns-then-packed-eq1-clause-slotted : goal.returns-then-packed-eq1-clause-slotted
returns-then-packed-eq1-clause-slotted c =
    one_fits c.fits_one.new.origins.items c.args.slotted.now c.args.packed.now c.fits_one.result c.requires (omega arith) (omega arith) c.fits_one.ensures.one c.fits_one.ensures.placed

pub returns-clause-slotted : goal.returns-clause-slotted
returns-clause-slotted c e =
    placed_slotted c.place_all.new.origins.items c.args.slotted.now c.args.packed.now c.requires (omega arith) (c.in_ok-place_all.ensures c.if-not-branch.false) (subst Rises c.deref.ensures.value (c.do_rise.ensures e)) c.type_inv.origins

pub returns-clause-packed : goal.returns-clause-packed
returns-clause-packed c e = placed_same c.place_all.new.origins.items c.args.slotted.now c.args.packed.now c.requires (omega arith) (c.in_ok-place_all.ensures c.if-not-branch.false)
