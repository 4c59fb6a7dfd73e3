use Rattle.std.proofs.Common.{◌≡◌, ◌≢◌, ◌<◌, ◌+◌, ◌-◌, ◌∙◌, Some, slice_get, Contains, ap, sym, subst, List, length, arith, ◌++◌, ◌∷◌, []}
use Rattle.recognizer_model.specs.declared.Item.{Item}
use Rattle.recognizer_model.specs.Leo.{InReduced}
use Rattle.recognizer_model.specs.Counts.{IsListOf}
use Rattle.std.specs.List.{AllPairs}
use Rattle.recognizer_model.specs.Links.{Link, IsLink}
use Rattle.leo_items.specs.Memo.{pairs_of}
use Rattle.earley_sets.specs.Recognizer.{Recognizer, edges_of, top_of, made}
use Rattle.expected_terminals.specs.Expected.{KnowsLast}
use Rattle.expected_terminals.proofs.Expecting.{row_longer, most_more, notes_still}
use Rattle.earley_sets.proofs.Recognizing.{kept_top, kept_sets, kept_begun, add_kept, added_set, tried_links}
use Rattle.earley_sets.specs.Hiding.{NotesTwice}
use Rattle.earley_sets.proofs.Twice.{notes_long, notes_stay, notes_next}
use Rattle.earley_sets.proofs.recce.Recce.complete_earleme.Goals as goal

pub add_row-requires-clause-top : goal.add_row-requires-clause-top
add_row-requires-clause-top g c = kept_top c.self.inside.flat.now c.self.inside.start c.self.inside.edges c.self.inside.rows.sets c.self.inside.top c.self.inside.memo c.self.invariant.0

pub add_row-requires-clause-sets : goal.add_row-requires-clause-sets
add_row-requires-clause-sets g c = kept_sets c.self.inside.flat.now c.self.inside.start c.self.inside.edges c.self.inside.rows.sets c.self.inside.top c.self.inside.memo c.self.invariant.0

pub add_row-requires-clause-begun : goal.add_row-requires-clause-begun
add_row-requires-clause-begun g c = kept_begun c.self.inside.flat.now c.self.inside.start c.self.inside.edges c.self.inside.rows.sets c.self.inside.top c.self.inside.memo c.self.invariant.0

pub make_room-requires : goal.make_room-requires
make_room-requires g c =
    let s = c.self.invariant.0.is.some in
    let l = notes_long c.self.inside.flat.now c.self.inside.rows.sets c.self.inside.hiding.items c.self.inside.hiding.items c.self.invariant.5 (omega arith) in
    let e = c.len-place.ensures in
    omega (arith, l, e)

pub invariant_of-self : goal.invariant_of-self
invariant_of-self g c = (
  c.self.invariant.0,
  c.self.invariant.1,
  c.self.invariant.2,
  c.self.invariant.3,
  c.self.invariant.4,
  notes_stay c.self.inside.flat.now c.self.inside.rows.sets c.self.inside.hiding.items c.make_room.new.notes.items c.self.invariant.5 (λ j lt. c.make_room.ensures.same j (let e = c.len-place.ensures in omega (arith, lt, e))),
)

pub invariant_of-self-in_err-twice : goal.invariant_of-self-in_err-twice
invariant_of-self-in_err-twice g c =
    let v = ap (λ (r : Recognizer). length r.sets) c.self.view_is in
    let r = c.requires in
    let s = c.self.invariant.0.is.some in
    let kept = add_kept c.self.inside.flat.now c.self.inside.start c.self.inside.edges c.self.inside.rows c.add_row.new.rows c.self.inside.top c.self.inside.memo c.self.invariant.0 c.add_row.result c.add_row.new.memo c.add_row.ensures.memo (omega arith) c.add_row.ensures.ok c.add_row.ensures.err in (
      kept,
      c.self.invariant.1,
      c.add_row.ensures.flat,
      c.add_row.ensures.lists,
      subst (λ (l : List (List Item)). KnowsLast c.self.inside.flat.now l c.self.inside.expected) (sym c.in_err-twice.ensures.err.0) c.self.invariant.4,
      subst (λ (l : List (List Item)). NotesTwice c.self.inside.flat.now l c.make_room.new.notes.items) (sym c.in_err-twice.ensures.err.0)
          (notes_stay c.self.inside.flat.now c.self.inside.rows.sets c.self.inside.hiding.items c.make_room.new.notes.items c.self.invariant.5 (λ j lt. c.make_room.ensures.same j (let e = c.len-place.ensures in omega (arith, lt, e)))),
    )

pub invariant_of-self-2 : goal.invariant_of-self-2
invariant_of-self-2 g c =
    let v = ap (λ (r : Recognizer). length r.sets) c.self.view_is in
    let r = c.requires in
    let s = c.self.invariant.0.is.some in
    let kept = add_kept c.self.inside.flat.now c.self.inside.start c.self.inside.edges c.self.inside.rows c.add_row.new.rows c.self.inside.top c.self.inside.memo c.self.invariant.0 c.add_row.result c.add_row.new.memo c.add_row.ensures.memo (omega arith) c.add_row.ensures.ok c.add_row.ensures.err in (
      kept,
      c.self.invariant.1,
      c.add_row.ensures.flat,
      c.add_row.ensures.lists,
      c.expect_row.ensures,
      (let (row, more, _, _) = c.in_ok-twice.ensures.ok in
          notes_next c.self.inside.flat.now c.self.inside.rows.sets c.self.inside.hiding.items c.note_place.new.notes.items c.self.invariant.5
          (λ j lt. (let e = c.len-place.ensures in let below : j < c.len-place.result = omega (arith, lt, e) in c.note_place.ensures.same j below ∙ c.make_room.ensures.same j below))
          c.add_row.new.rows.sets row more c.in_ok-twice.twice
          (subst (λ n. slice_get c.note_place.new.notes.items n ≡ Some c.in_ok-twice.twice) c.len-place.ensures c.note_place.ensures.here) c.in_ok-twice.ensures.twice),
    )

pub expect_row-requires-clause-flat : goal.expect_row-requires-clause-flat
expect_row-requires-clause-flat g c = c.add_row.ensures.flat

pub expect_row-requires-clause-last : goal.expect_row-requires-clause-last
expect_row-requires-clause-last g c = let (row, more, _, _) = c.in_ok-twice.ensures.ok in let l = row_longer c.self.inside.rows.sets c.add_row.new.rows.sets row more in let e = c.len-last.ensures in omega arith

pub expect_row-requires-clause-few : goal.expect_row-requires-clause-few
expect_row-requires-clause-few g c =
    let v = ap (λ (r : Recognizer). length r.sets) c.self.view_is in
    let r = c.requires in
    let (row, more, _, _) = c.in_ok-twice.ensures.ok in
    let l = row_longer c.self.inside.rows.sets c.add_row.new.rows.sets row more in
    let e = c.len-last.ensures in
    omega arith

pub expect_row-requires-clause-most : goal.expect_row-requires-clause-most
expect_row-requires-clause-most g c =
    let (row, more, _, _) = c.in_ok-twice.ensures.ok in
    let l = row_longer c.self.inside.rows.sets c.add_row.new.rows.sets row more in
    let e = c.len-last.ensures in
    most_more (length c.self.inside.rows.sets) (c.len-last.result - 1) c.self.inside.expected.marks.rows.items (omega arith) c.self.invariant.4.most

pub expect_row-requires-clause-room : goal.expect_row-requires-clause-room
expect_row-requires-clause-room g c = c.self.invariant.4.room

pub expect_row-requires-clause-notes : goal.expect_row-requires-clause-notes
expect_row-requires-clause-notes g c =
    let (row, more, _, _) = c.in_ok-twice.ensures.ok in
    notes_still c.self.inside.flat.now c.self.inside.rows.sets c.add_row.new.rows.sets row c.self.inside.expected.lists c.self.inside.expected.notes.items more c.self.invariant.4.notes

pub returns-clause-ok : goal.returns-clause-ok
returns-clause-ok g c =
    subst (λ (r : Recognizer). (set : List Item) × (c.add_row.new.rows.sets ≡ r.sets ++ set ∷ []) × IsListOf (InReduced r.flat (edges_of r) (top_of r) (length r.sets)) set) c.self.view_is
    (added_set c.self.inside.flat.now c.self.inside.start c.self.inside.edges c.self.inside.rows c.add_row.new.rows c.self.inside.top c.self.inside.memo c.self.invariant.0 c.in_ok-twice.ensures.ok)

pub add_row-requires-clause-memo : goal.add_row-requires-clause-memo
add_row-requires-clause-memo g c = c.self.invariant.0.memo

pub returns-clause-counted : goal.returns-clause-counted
returns-clause-counted g c =
    subst (λ (r : Recognizer). (tried : List Link) × AllPairs (λ a b. a ≢ b) tried × ((l : Link) → Contains tried l → IsLink r.flat (edges_of r) (top_of r) (length r.sets) l) ×
    (c.add_row.new.steps + made r ≡ c.args.steps.now + length tried + length (pairs_of c.add_row.new.memo))) c.self.view_is
    (tried_links c.self.inside.flat.now c.self.inside.start c.self.inside.edges c.self.inside.rows c.add_row.new.rows c.self.inside.top c.self.inside.memo c.self.invariant.0 c.add_row.new.memo c.args.steps.now c.add_row.new.steps c.in_ok-twice.ensures.counted)

pub add_row-requires-clause-heads : goal.add_row-requires-clause-heads
add_row-requires-clause-heads g c = c.self.invariant.1

pub add_row-requires-clause-rows : goal.add_row-requires-clause-rows
add_row-requires-clause-rows g c = record { flat = c.self.invariant.2; are = c.self.invariant.0.rows }

pub add_row-requires-clause-lists : goal.add_row-requires-clause-lists
add_row-requires-clause-lists g c = c.self.invariant.3
