use Rattle.std.proofs.Common.{◌++◌, ◌∷◌, [], ◌∙◌, sym, ap, subst, ℕ, List, length, arith}
use Rattle.kernels.specs.Shapes.{Kernel}
use Rattle.jagged.specs.Rows.{row_at as list_at}
use Rattle.item_rows.specs.Rows.{ItemRows}
use Rattle.item_rows.specs.Kept.{AreItems}
use Rattle.item_rows.specs.Dotted.{row_items}
use Rattle.item_rows.specs.Held.{AreHeld}
use Rattle.item_rows.specs.Noted.{ArePlacesNoted}
use Rattle.item_rows.proofs.Noting.{noted_more}
use Rattle.item_rows.proofs.Joined.{row_length}
use Rattle.item_rows.proofs.Holding.{seen, in_lists, row_pushed, items_pushed, held_more, seen_more}
use Rattle.item_rows.proofs.rows.Rows.push.Goals as goal

pub pack_row-requires-clause-items : goal.pack_row-requires-clause-items
pack_row-requires-clause-items c = subst (λ (r : ItemRows). AreItems r.flat c.args.items.now) (sym c.self.view_is) c.requires.items

pub note_asked-requires-clause-held : goal.note_asked-requires-clause-held
note_asked-requires-clause-held c = (
  c.in_ok-count.count,
  subst (λ (k : List Kernel). AreHeld c.self.inside.dotted.rules c.self.inside.lists k c.in_ok-count.count)
      (sym (c.in_ok-push.ensures.ok.1 ∙ ap (λ (l : List ℕ). c.self.inside.kernels ++ (record { begun = c.args.begun; packed = l; kind = c.in_ok-push.ensures.ok.0 }) ∷ []) c.deref.ensures.value))
      (held_more c.self.inside.dotted.flat c.self.inside.dotted.rules c.self.inside.lists c.self.inside.kernels c.args.self.now c.self.view_is c.self.inside.count c.self.invariant.0
      c.pack_row.new.packed.items c.in_ok-push.ensures.ok.0 c.args.begun (in_lists c.self.inside.dotted.flat c.self.inside.dotted.rules c.self.inside.lists c.self.inside.kernels c.args.self.now c.self.view_is c.args.begun c.requires.begun) (let f = c.if-earleme-ge4294967296.false in let e = c.len-earleme.ensures in omega arith)
      (row_pushed c.self.inside.dotted.flat c.self.inside.dotted.rules c.self.inside.lists c.self.inside.kernels c.args.self.now c.self.view_is c.self.inside.count c.self.invariant.0 c.known.ensures.differ c.known.ensures.zero c.args.items.now c.pack_row.new.packed.items c.in_ok-pack_row.ensures.row c.in_ok-pack_row.ensures.same c.args.begun c.requires.begun c.requires.apart)
      c.in_ok-count.count
      (let all = row_length c.self.inside.dotted.rules (length c.self.inside.kernels) c.pack_row.new.packed.items (list_at c.self.inside.lists c.args.begun) in
      let list = ap (λ (l : List ℕ). length l) c.list.ensures in
      let sum = c.in_ok-count.ensures.ok in
      let own = c.len.ensures in
      omega arith)),
)

pub note_asked-requires-clause-noted : goal.note_asked-requires-clause-noted
note_asked-requires-clause-noted c =
    subst (λ (k : List Kernel). ArePlacesNoted c.self.inside.dotted.flat c.self.inside.dotted.rules c.self.inside.lists k c.self.inside.noted.blocks.items) (sym (c.in_ok-push.ensures.ok.1 ∙ ap (λ (l : List ℕ). c.self.inside.kernels ++ (record { begun = c.args.begun; packed = l; kind = c.in_ok-push.ensures.ok.0 }) ∷ []) c.deref.ensures.value))
    (noted_more c.self.inside.dotted.flat c.self.inside.dotted.rules c.self.inside.lists c.self.inside.kernels _ c.self.invariant.1 (record { begun = c.args.begun; packed = c.pack_row.new.packed.items; kind = c.in_ok-push.ensures.ok.0 }))

pub invariant_of-self-2 : goal.invariant_of-self-2
invariant_of-self-2 c = (
  subst (λ (k : List Kernel). AreHeld c.self.inside.dotted.rules c.self.inside.lists k c.in_ok-count.count)
      (sym (c.in_ok-push.ensures.ok.1 ∙ ap (λ (l : List ℕ). c.self.inside.kernels ++ (record { begun = c.args.begun; packed = l; kind = c.in_ok-push.ensures.ok.0 }) ∷ []) c.deref.ensures.value))
      (held_more c.self.inside.dotted.flat c.self.inside.dotted.rules c.self.inside.lists c.self.inside.kernels c.args.self.now c.self.view_is c.self.inside.count c.self.invariant.0
      c.pack_row.new.packed.items c.in_ok-push.ensures.ok.0 c.args.begun (in_lists c.self.inside.dotted.flat c.self.inside.dotted.rules c.self.inside.lists c.self.inside.kernels c.args.self.now c.self.view_is c.args.begun c.requires.begun) (let f = c.if-earleme-ge4294967296.false in let e = c.len-earleme.ensures in omega arith)
      (row_pushed c.self.inside.dotted.flat c.self.inside.dotted.rules c.self.inside.lists c.self.inside.kernels c.args.self.now c.self.view_is c.self.inside.count c.self.invariant.0 c.known.ensures.differ c.known.ensures.zero c.args.items.now c.pack_row.new.packed.items c.in_ok-pack_row.ensures.row c.in_ok-pack_row.ensures.same c.args.begun c.requires.begun c.requires.apart)
      c.in_ok-count.count
      (let all = row_length c.self.inside.dotted.rules (length c.self.inside.kernels) c.pack_row.new.packed.items (list_at c.self.inside.lists c.args.begun) in
      let list = ap (λ (l : List ℕ). length l) c.list.ensures in
      let sum = c.in_ok-count.ensures.ok in
      let own = c.len.ensures in
      omega arith)),
  c.note_asked.ensures,
)

pub returns-clause-ok : goal.returns-clause-ok
returns-clause-ok c = (
  row_items c.self.inside.dotted.rules (length c.self.inside.kernels) c.pack_row.new.packed.items (list_at c.self.inside.lists c.args.begun),
  c.in_ok-push.ensures.ok.0,
  ap (λ (k : List Kernel). seen c.self.inside.dotted.flat c.self.inside.dotted.rules c.self.inside.lists k)
      (c.in_ok-push.ensures.ok.1 ∙ ap (λ (l : List ℕ). c.self.inside.kernels ++ (record { begun = c.args.begun; packed = l; kind = c.in_ok-push.ensures.ok.0 }) ∷ []) c.deref.ensures.value)
      ∙ seen_more c.self.inside.dotted.flat c.self.inside.dotted.rules c.self.inside.lists c.self.inside.kernels c.args.self.now c.self.view_is c.self.inside.count c.self.invariant.0
      c.pack_row.new.packed.items c.in_ok-push.ensures.ok.0 c.args.begun (in_lists c.self.inside.dotted.flat c.self.inside.dotted.rules c.self.inside.lists c.self.inside.kernels c.args.self.now c.self.view_is c.args.begun c.requires.begun) (let f = c.if-earleme-ge4294967296.false in let e = c.len-earleme.ensures in omega arith)
      (row_pushed c.self.inside.dotted.flat c.self.inside.dotted.rules c.self.inside.lists c.self.inside.kernels c.args.self.now c.self.view_is c.self.inside.count c.self.invariant.0 c.known.ensures.differ c.known.ensures.zero c.args.items.now c.pack_row.new.packed.items c.in_ok-pack_row.ensures.row c.in_ok-pack_row.ensures.same c.args.begun c.requires.begun c.requires.apart),
  items_pushed c.self.inside.dotted.flat c.self.inside.dotted.rules c.self.inside.lists c.self.inside.kernels c.args.self.now c.self.view_is c.self.inside.count c.self.invariant.0 c.known.ensures.differ c.known.ensures.zero c.args.items.now c.pack_row.new.packed.items c.in_ok-pack_row.ensures.row c.in_ok-pack_row.ensures.same c.args.begun c.requires.begun c.requires.apart,
)
