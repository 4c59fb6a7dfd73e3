use Rattle.std.proofs.Common.{◌∙◌}
use Rattle.item_rows.proofs.Holding.{in_kernels, kind_seen}
use Rattle.item_rows.proofs.rows.Rows.kind.Goals as goal

pub kind-requires : goal.kind-requires
kind-requires c = in_kernels c.self.inside.dotted.flat c.self.inside.dotted.rules c.self.inside.lists c.self.inside.kernels c.args.self.now c.self.view_is c.args.j c.requires

pub returns : goal.returns
returns c = c.kind.ensures ∙ kind_seen c.self.inside.dotted.flat c.self.inside.dotted.rules c.self.inside.lists c.self.inside.kernels c.args.self.now c.self.view_is c.args.j c.requires
