use Rattle.item_rows.proofs.Holding.{kinds_known}
use Rattle.item_rows.proofs.rows.Rows.known.Goals as goal

pub returns : goal.returns
returns c = kinds_known c.self.inside.dotted.flat c.self.inside.dotted.rules c.self.inside.lists c.self.inside.kernels c.args.self.now c.self.view_is c.known.ensures
