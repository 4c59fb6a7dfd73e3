use Rattle.std.proofs.Common.{◌∙◌, sym}
use Rattle.item_rows.proofs.Holding.{in_kernels, kind_seen, alike_seen}
use Rattle.item_rows.proofs.rows.Rows.is_alike.Goals as goal

pub is_alike-requires-clause-first : goal.is_alike-requires-clause-first
is_alike-requires-clause-first c = in_kernels c.self.inside.dotted.flat c.self.inside.dotted.rules c.self.inside.lists c.self.inside.kernels c.args.self.now c.self.view_is c.args.i c.requires.first

pub is_alike-requires-clause-second : goal.is_alike-requires-clause-second
is_alike-requires-clause-second c = in_kernels c.self.inside.dotted.flat c.self.inside.dotted.rules c.self.inside.lists c.self.inside.kernels c.args.self.now c.self.view_is c.args.j c.requires.second

pub returns-clause-alike : goal.returns-clause-alike
returns-clause-alike c e = alike_seen c.self.inside.dotted.flat c.self.inside.dotted.rules c.self.inside.lists c.self.inside.kernels c.args.self.now c.self.view_is c.args.i c.args.j c.requires.first c.requires.second (c.is_alike.ensures.begun e) (c.is_alike.ensures.dotted e)

pub returns-clause-exact : goal.returns-clause-exact
returns-clause-exact c =
    let a = kind_seen c.self.inside.dotted.flat c.self.inside.dotted.rules c.self.inside.lists c.self.inside.kernels c.args.self.now c.self.view_is c.args.i c.requires.first in
    let b = kind_seen c.self.inside.dotted.flat c.self.inside.dotted.rules c.self.inside.lists c.self.inside.kernels c.args.self.now c.self.view_is c.args.j c.requires.second in
    (λ t. sym a ∙ (c.is_alike.ensures.exact.0 t ∙ b), λ e. c.is_alike.ensures.exact.1 (a ∙ (e ∙ sym b)))
