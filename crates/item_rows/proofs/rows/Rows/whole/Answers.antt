use Rattle.std.proofs.Common.{refl, subst, List, Contains, arith}
use Rattle.recognizer_model.specs.declared.Item.{Item}
use Rattle.recognizer_model.specs.Flat.{FlatGrammar}
use Rattle.recognizer_model.specs.Items.{IsWhole}
use Rattle.recognizer_model.specs.Counts.{IsListOf}
use Rattle.kernels.specs.Slots.{placed_all}
use Rattle.jagged.specs.Rows.{row_at as list_at}
use Rattle.item_rows.specs.Rows.{row_at}
use Rattle.item_rows.proofs.Holding.{same_flat, in_kernels, list_there, fits, parts_here, items_here}
use Rattle.item_rows.proofs.rows.Rows.whole.Goals as goal

pub kernel-kernel-requires : goal.kernel-kernel-requires
kernel-kernel-requires c = in_kernels c.self.inside.dotted.flat c.self.inside.dotted.rules c.self.inside.lists c.self.inside.kernels c.args.self.now c.self.view_is c.args.j c.requires

pub whole-requires-clause-there : goal.whole-requires-clause-there
whole-requires-clause-there c = list_there c.self.inside.dotted.flat c.self.inside.dotted.rules c.self.inside.lists c.self.inside.kernels c.args.self.now c.self.view_is c.self.inside.count c.self.invariant.0 c.args.j c.requires c.kernel-kernel.result.begun c.kernel-kernel.ensures.begun

pub overflow_cast-j : goal.overflow_cast-j
overflow_cast-j c = let f = fits c.self.inside.dotted.flat c.self.inside.dotted.rules c.self.inside.lists c.self.inside.kernels c.args.self.now c.self.view_is c.self.inside.count c.self.invariant.0 c.args.j c.requires in omega arith

pub whole-requires-clause-row : goal.whole-requires-clause-row
whole-requires-clause-row c =
    parts_here c.self.inside.dotted.flat c.self.inside.dotted.rules c.self.inside.lists c.self.inside.kernels c.args.self.now c.self.view_is c.self.inside.count c.self.invariant.0 c.args.j c.requires c.kernel-kernel.result.begun c.kernel-kernel.ensures.begun
    (placed_all c.kernel-kernel.result.origins.now c.kernel-kernel.result.slotted.now) (list_at c.self.inside.lists c.kernel-kernel.result.begun) c.kernel-kernel.ensures.packed refl

pub returns : goal.returns
returns c =
    subst (λ (f : FlatGrammar). IsListOf (λ item. Contains (row_at c.args.self.now.sets c.args.j) item × IsWhole f item) c.whole.result)
    (same_flat c.self.inside.dotted.flat c.self.inside.dotted.rules c.self.inside.lists c.self.inside.kernels c.args.self.now c.self.view_is)
    (subst (λ (l : List Item). IsListOf (λ item. Contains l item × IsWhole c.self.inside.dotted.flat item) c.whole.result)
    (items_here c.self.inside.dotted.flat c.self.inside.dotted.rules c.self.inside.lists c.self.inside.kernels c.args.self.now c.self.view_is c.self.inside.count c.self.invariant.0 c.args.j c.requires c.kernel-kernel.result.begun c.kernel-kernel.ensures.begun
    (placed_all c.kernel-kernel.result.origins.now c.kernel-kernel.result.slotted.now) (list_at c.self.inside.lists c.kernel-kernel.result.begun) c.kernel-kernel.ensures.packed refl) c.whole.ensures)
