use Rattle.std.proofs.Common.{List, sym, subst, Contains}
use Rattle.recognizer_model.specs.declared.Item.{Item}
use Rattle.recognizer_model.specs.Flat.{FlatGrammar}
use Rattle.std.specs.List.{AllPairs}
use Rattle.std.specs.Prelude.{◌≢◌}
use Rattle.item_rows.specs.Kept.{IsItem}
use Rattle.begun_lists.specs.Begun.{AreBegun}
use Rattle.begun_lists.specs.Tried.{TriesBegun}
use Rattle.begun_lists.proofs.Begins.{begins_item}
use Rattle.begun_lists.proofs.Sharing.{last_below, shared_keeps, shared_more, shared_noted, shared_begun, shared_tried}
use Rattle.begun_lists.proofs.lists.make_list.Goals as goal

pub share-requires-clause-items : goal.share-requires-clause-items
share-requires-clause-items g c item h =
    subst (λ (f : FlatGrammar). IsItem f item) (sym c.requires.flat) (begins_item ((c.in_ok-fill_begun.ensures.begun item).0 (subst (λ (l : List Item). Contains l item) c.as_slice.ensures.items h))).0

pub share-requires-clause-once : goal.share-requires-clause-once
share-requires-clause-once g c = subst (λ (l : List Item). AllPairs (λ x y. x ≢ y) l) (sym c.as_slice.ensures.items) c.as_slice.ensures.once

pub share-requires-clause-zero : goal.share-requires-clause-zero
share-requires-clause-zero g c item h = (begins_item ((c.in_ok-fill_begun.ensures.begun item).0 (subst (λ (l : List Item). Contains l item) c.as_slice.ensures.items h))).1

pub returns-in_err-symbols-clause-lists : goal.returns-in_err-symbols-clause-lists
returns-in_err-symbols-clause-lists g c = shared_more c.args.flat.now c.args.rows.now c.share.new.self c.as_slice.result.now c.in_ok-number.ensures.ok c.args.lists.now.numbers.entries c.requires.lists

pub returns-in_err-note-clause-lists : goal.returns-in_err-note-clause-lists
returns-in_err-note-clause-lists g c =
    shared_noted c.args.flat.now c.args.rows.now c.share.new.self c.as_slice.result.now c.in_ok-number.ensures.ok c.in_ok-number.number c.in_ok-number.ensures.number c.args.lists.now.numbers.entries c.note.new.numbers.entries c.requires.lists c.args.lists.now.symbols.items c.in_ok-symbols.symbols.items
    (subst (λ l. AreBegun c.args.flat.now (Contains l) c.as_slice.result.now) c.deref.ensures.value (subst (λ (l : List Item). AreBegun c.args.flat.now (Contains c.deref.result.now) l) (sym c.as_slice.ensures.items) c.in_ok-fill_begun.ensures.begun))
    c.in_ok-symbols.ensures c.note.ensures

pub returns-clause-lists : goal.returns-clause-lists
returns-clause-lists g c =
    shared_noted c.args.flat.now c.args.rows.now c.share.new.self c.as_slice.result.now c.in_ok-number.ensures.ok c.in_ok-number.number c.in_ok-number.ensures.number c.args.lists.now.numbers.entries c.note.new.numbers.entries c.requires.lists c.args.lists.now.symbols.items c.in_ok-symbols.symbols.items
    (subst (λ l. AreBegun c.args.flat.now (Contains l) c.as_slice.result.now) c.deref.ensures.value (subst (λ (l : List Item). AreBegun c.args.flat.now (Contains c.deref.result.now) l) (sym c.as_slice.ensures.items) c.in_ok-fill_begun.ensures.begun))
    c.in_ok-symbols.ensures c.note.ensures

pub returns-clause-begun : goal.returns-clause-begun
returns-clause-begun g c =
    shared_begun c.args.flat.now c.args.rows.now c.share.new.self c.as_slice.result.now c.in_ok-number.ensures.ok c.in_ok-number.number c.in_ok-number.ensures.number (Contains c.args.lists.now.symbols.items)
    (subst (λ l. AreBegun c.args.flat.now (Contains l) c.as_slice.result.now) c.deref.ensures.value (subst (λ (l : List Item). AreBegun c.args.flat.now (Contains c.deref.result.now) l) (sym c.as_slice.ensures.items) c.in_ok-fill_begun.ensures.begun))

pub returns-clause-tried : goal.returns-clause-tried
returns-clause-tried g c =
    shared_tried c.args.flat.now c.args.rows.now c.share.new.self c.as_slice.result.now c.in_ok-number.ensures.ok c.in_ok-number.number c.in_ok-number.ensures.number c.args.lists.now.symbols.items c.args.steps.now c.fill_begun.new.steps
    (subst (λ l. TriesBegun c.args.flat.now l c.as_slice.result.now c.args.steps.now c.fill_begun.new.steps) c.deref.ensures.value (subst (λ (l : List Item). TriesBegun c.args.flat.now c.deref.result.now l c.args.steps.now c.fill_begun.new.steps) (sym c.as_slice.ensures.items) c.in_ok-fill_begun.ensures.tried))

pub returns-in_err-symbols-clause-kept : goal.returns-in_err-symbols-clause-kept
returns-in_err-symbols-clause-kept g c = shared_keeps c.args.flat.now c.args.rows.now c.share.new.self c.as_slice.result.now c.in_ok-number.ensures.ok

pub returns-in_err-note-clause-kept : goal.returns-in_err-note-clause-kept
returns-in_err-note-clause-kept g c = shared_keeps c.args.flat.now c.args.rows.now c.share.new.self c.as_slice.result.now c.in_ok-number.ensures.ok

pub returns-clause-kept : goal.returns-clause-kept
returns-clause-kept g c = shared_keeps c.args.flat.now c.args.rows.now c.share.new.self c.as_slice.result.now c.in_ok-number.ensures.ok

pub returns-clause-there : goal.returns-clause-there
returns-clause-there g c = last_below c.args.flat.now c.args.rows.now c.share.new.self c.as_slice.result.now c.in_ok-number.ensures.ok c.in_ok-number.number c.in_ok-number.ensures.number
