use Rattle.std.proofs.Common.{◌∙◌, ◌∷◌, [], List, ap, sym, subst}
use Rattle.recognizer_model.specs.declared.Item.{Item}
use Rattle.item_rows.specs.Rows.{ItemRows, row_at}
use Rattle.begun_lists.specs.Met.{AreFound}
use Rattle.earley_sets.specs.Recognizer.{Recognizer, set_at}
use Rattle.expected_terminals.proofs.Expecting.{no_notes, one_row, room_stays}
use Rattle.earley_sets.proofs.Recognizing.{first_there, restarted}
use Rattle.earley_sets.proofs.Twice.{first_again}
use Rattle.earley_sets.proofs.recce.Recce.restart.Goals as goal

pub keep_first-requires : goal.keep_first-requires
keep_first-requires c = first_there c.self.inside.flat.now c.self.inside.start c.self.inside.edges c.self.inside.rows.sets c.self.inside.top c.self.inside.memo c.self.invariant.0

pub invariant_of-self : goal.invariant_of-self
invariant_of-self c = (
  restarted c.self.inside.flat.now c.self.inside.start c.self.inside.edges c.self.inside.rows.sets c.self.inside.top c.self.inside.memo c.self.invariant.0 c.clear-2.new.self c.keep_first.new.self.sets c.clear.new.self c.clear-2.ensures
      (ap (λ (r : ItemRows). r.sets) c.keep_first.ensures) c.clear.ensures,
  c.self.invariant.1,
  ap (λ (r : ItemRows). r.flat) c.keep_first.ensures ∙ c.self.invariant.2,
  subst (λ (l : List (List Item)). AreFound c.self.inside.flat.now l c.self.inside.lists) (sym (ap (λ (r : ItemRows). r.shared) c.keep_first.ensures)) c.self.invariant.3,
  c.expect_row.ensures,
  first_again c.self.inside.flat.now c.self.inside.rows.sets c.self.inside.hiding.items c.self.invariant.5
      (first_there c.self.inside.flat.now c.self.inside.start c.self.inside.edges c.self.inside.rows.sets c.self.inside.top c.self.inside.memo c.self.invariant.0)
      c.keep_first.new.self.sets (row_at c.self.inside.rows.sets 0) (ap (λ (r : ItemRows). r.sets) c.keep_first.ensures) c.truncate.new.self.items c.truncate.ensures.items,
)

pub expect_row-requires-clause-flat : goal.expect_row-requires-clause-flat
expect_row-requires-clause-flat c = ap (λ (r : ItemRows). r.flat) c.keep_first.ensures ∙ c.self.invariant.2

pub expect_row-requires-clause-last : goal.expect_row-requires-clause-last
expect_row-requires-clause-last c = one_row c.keep_first.new.self.sets (row_at c.self.inside.rows.sets 0) (ap (λ (r : ItemRows). r.sets) c.keep_first.ensures)

pub expect_row-requires-clause-room : goal.expect_row-requires-clause-room
expect_row-requires-clause-room c = room_stays c.self.inside.flat.now c.self.inside.expected.marks c.forget.new.expected.marks c.forget.ensures.room.0 c.forget.ensures.room.1 c.self.invariant.4.room

pub expect_row-requires-clause-notes : goal.expect_row-requires-clause-notes
expect_row-requires-clause-notes c = no_notes c.self.inside.flat.now c.keep_first.new.self.sets c.forget.new.expected.lists c.forget.new.expected.notes.items c.forget.ensures.notes

pub returns-clause-sets : goal.returns-clause-sets
returns-clause-sets c = ap (λ (r : ItemRows). r.sets) c.keep_first.ensures ∙ ap (λ (r : Recognizer). set_at r 0 ∷ []) c.self.view_is
