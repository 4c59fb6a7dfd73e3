use Rattle.std.proofs.Common.{◌↔◌, subst, List, Contains, arith}
use Rattle.std.specs.Prelude.{IsTrue}
use Rattle.recognizer_model.specs.declared.Item.{Item}
use Rattle.kernels.specs.Slots.{placed_all}
use Rattle.item_rows.proofs.Holding.{in_kernels, list_there, fits, parts_here, items_here}
use Rattle.item_rows.proofs.rows.Rows.contains.Goals as goal

pub kernel-kernel-requires : goal.kernel-kernel-requires
kernel-kernel-requires c = in_kernels c.self.inside.dotted.flat c.self.inside.dotted.rules c.self.inside.lists c.self.inside.kernels c.args.self.now c.self.view_is c.args.j c.requires

pub list-begun-requires : goal.list-begun-requires
list-begun-requires c = list_there c.self.inside.dotted.flat c.self.inside.dotted.rules c.self.inside.lists c.self.inside.kernels c.args.self.now c.self.view_is c.self.inside.count c.self.invariant.0 c.args.j c.requires c.kernel-kernel.result.begun c.kernel-kernel.ensures.begun

pub overflow_cast-j : goal.overflow_cast-j
overflow_cast-j c = let f = fits c.self.inside.dotted.flat c.self.inside.dotted.rules c.self.inside.lists c.self.inside.kernels c.args.self.now c.self.view_is c.self.inside.count c.self.invariant.0 c.args.j c.requires in omega arith

pub contains-requires-clause-row : goal.contains-requires-clause-row
contains-requires-clause-row c =
    parts_here c.self.inside.dotted.flat c.self.inside.dotted.rules c.self.inside.lists c.self.inside.kernels c.args.self.now c.self.view_is c.self.inside.count c.self.invariant.0 c.args.j c.requires c.kernel-kernel.result.begun c.kernel-kernel.ensures.begun
    (placed_all c.kernel-kernel.result.origins.now c.kernel-kernel.result.slotted.now) c.list-begun.result.now c.kernel-kernel.ensures.packed c.list-begun.ensures

pub returns : goal.returns
returns c =
    subst (λ (l : List Item). IsTrue c.contains.result ↔ Contains l c.args.item)
    (items_here c.self.inside.dotted.flat c.self.inside.dotted.rules c.self.inside.lists c.self.inside.kernels c.args.self.now c.self.view_is c.self.inside.count c.self.invariant.0 c.args.j c.requires c.kernel-kernel.result.begun c.kernel-kernel.ensures.begun
    (placed_all c.kernel-kernel.result.origins.now c.kernel-kernel.result.slotted.now) c.list-begun.result.now c.kernel-kernel.ensures.packed c.list-begun.ensures) c.contains.ensures
