use Rattle.std.proofs.Common.{◌∙◌, sym}
use Rattle.item_rows.proofs.Holding.{sets_length}
use Rattle.item_rows.proofs.rows.Rows.len.Goals as goal

pub returns : goal.returns
returns c = c.len.ensures ∙ sym (sets_length c.self.inside.dotted.flat c.self.inside.dotted.rules c.self.inside.lists c.self.inside.kernels c.args.self.now c.self.view_is)
