use Rattle.kernels.proofs.Shaping.{same_begun, same_dotted}
use Rattle.kernels.proofs.shapes.Kernels.known.Goals as goal

pub returns : goal.returns
returns c i j li lj e = (
  same_begun c.self.inside.shapes.keys c.self.inside.kinds.items c.self.inside.origins c.args.self.now c.self.invariant c.self.view_is i j li lj e,
  same_dotted c.self.inside.shapes.keys c.self.inside.kinds.items c.self.inside.origins c.args.self.now c.self.invariant c.self.view_is i j li lj e,
)
