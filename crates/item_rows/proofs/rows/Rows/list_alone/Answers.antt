use Rattle.std.proofs.Common.{◌↔◌, refl, subst, Contains, arith}
use Rattle.recognizer_model.specs.declared.Item.{Item}
use Rattle.recognizer_model.specs.Flat.{FlatGrammar}
use Rattle.kernels.specs.Slots.{placed_all}
use Rattle.jagged.specs.Rows.{row_at as list_at}
use Rattle.item_rows.specs.Rows.{row_at, shared_at, IsBegunAt}
use Rattle.item_rows.specs.Kept.{WaitsForTerminal}
use Rattle.item_rows.proofs.Holding.{same_flat, shared_length, in_kernels, list_there, parts_here, list_alone}
use Rattle.item_rows.proofs.rows.Rows.list_alone.Goals as goal

pub kernel-kernel-requires : goal.kernel-kernel-requires
kernel-kernel-requires c = in_kernels c.self.inside.dotted.flat c.self.inside.dotted.rules c.self.inside.lists c.self.inside.kernels c.args.self.now c.self.view_is c.args.j c.requires

pub has_scanned-requires-clause-row : goal.has_scanned-requires-clause-row
has_scanned-requires-clause-row c =
    (parts_here c.self.inside.dotted.flat c.self.inside.dotted.rules c.self.inside.lists c.self.inside.kernels c.args.self.now c.self.view_is c.self.inside.count c.self.invariant.0 c.args.j c.requires c.kernel-kernel.result.begun c.kernel-kernel.ensures.begun
    (placed_all c.kernel-kernel.result.origins.now c.kernel-kernel.result.slotted.now) (list_at c.self.inside.lists c.kernel-kernel.result.begun) c.kernel-kernel.ensures.packed refl).first

pub returns-else-has_scanned-clause-there : goal.returns-else-has_scanned-clause-there
returns-else-has_scanned-clause-there c =
    let lt = list_there c.self.inside.dotted.flat c.self.inside.dotted.rules c.self.inside.lists c.self.inside.kernels c.args.self.now c.self.view_is c.self.inside.count c.self.invariant.0 c.args.j c.requires c.kernel-kernel.result.begun c.kernel-kernel.ensures.begun in
    let l = shared_length c.self.inside.dotted.flat c.self.inside.dotted.rules c.self.inside.lists c.self.inside.kernels c.args.self.now c.self.view_is in
    omega arith

pub returns-else-has_scanned-clause-alone : goal.returns-else-has_scanned-clause-alone
returns-else-has_scanned-clause-alone c =
    subst (λ (f : FlatGrammar). (item : Item) → WaitsForTerminal f item → Contains (row_at c.args.self.now.sets c.args.j) item ↔ IsBegunAt (shared_at c.args.self.now.shared c.kernel-kernel.result.begun) c.args.j item)
    (same_flat c.self.inside.dotted.flat c.self.inside.dotted.rules c.self.inside.lists c.self.inside.kernels c.args.self.now c.self.view_is)
    (list_alone c.self.inside.dotted.flat c.self.inside.dotted.rules c.self.inside.lists c.self.inside.kernels c.args.self.now c.self.view_is c.self.inside.count c.self.invariant.0 c.args.j c.requires c.kernel-kernel.result.begun c.kernel-kernel.ensures.begun
    (placed_all c.kernel-kernel.result.origins.now c.kernel-kernel.result.slotted.now) (list_at c.self.inside.lists c.kernel-kernel.result.begun) c.kernel-kernel.ensures.packed refl c.known.ensures.differ c.known.ensures.zero
    (WaitsForTerminal c.self.inside.dotted.flat) (λ item h w. (let t = c.has_scanned.ensures.1 (item, h, w) in let f = c.if-has_scanned.false in absurd (cc))))
