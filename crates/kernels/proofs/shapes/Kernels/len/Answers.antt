use Rattle.std.proofs.Common.{length, ap, arith}
use Rattle.kernels.proofs.Shaping.{shaped_length}
use Rattle.kernels.proofs.shapes.Kernels.len.Goals as goal

pub returns : goal.returns
returns c =
    let (a, b) = shaped_length c.self.inside.shapes.keys c.self.inside.kinds.items c.self.inside.origins c.self.invariant in
    let s = ap length c.self.view_is in
    let l = c.len.ensures in
    omega arith
