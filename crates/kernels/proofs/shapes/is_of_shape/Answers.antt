use Rattle.std.proofs.Common.{sym, arith}
use Rattle.kernels.proofs.Guessing.{of_shape_fits}
use Rattle.kernels.proofs.shapes.is_of_shape.Goals as goal

pub returns-in-Some : goal.returns-in-Some
returns-in-Some c =
    of_shape_fits c.args.shapes.now.keys c.in-Some.shape.now c.args.kind c.args.begun c.args.packed.now c.deref.result.now c.fits.new.origins.items c.fits.result (sym c.in-Some.ensures.key) (omega (arith, c.if-shape-begun.true)) c.deref.ensures.value
    c.fits.ensures.slotted c.fits.ensures.packed
