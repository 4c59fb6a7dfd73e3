use Rattle.std.proofs.Common.{◌∙◌, [], map, sym, refl, ap, append-nil}
use Rattle.finite_sets.proofs.Clauses.{on_err}
use Rattle.forest_parts.specs.Given.{given_at}
use Rattle.forest_parts.proofs.Rows.{kept_by, more_by}
use Rattle.forest_parts.proofs.given.put_row.Goals as goal

pub returns-in_err-extend_from_slice-2-clause-rows : goal.returns-in_err-extend_from_slice-2-clause-rows
returns-in_err-extend_from_slice-2-clause-rows c =
    (kept_by c.args.held_tops.now.items c.args.held_items.now.items c.args.rows.now.items c.requires.rows c.extend_from_slice.new.self.items c.extend_from_slice-2.new.self.items c.args.tops.now []
    c.in_ok-extend_from_slice.ensures.items (c.in_err-extend_from_slice-2.ensures.items ∙ sym (append-nil c.args.held_items.now.items))).0

pub returns-in_err-extend_from_slice-2-clause-err : goal.returns-in_err-extend_from_slice-2-clause-err
returns-in_err-extend_from_slice-2-clause-err c =
    on_err _ (kept_by c.args.held_tops.now.items c.args.held_items.now.items c.args.rows.now.items c.requires.rows c.extend_from_slice.new.self.items c.extend_from_slice-2.new.self.items c.args.tops.now []
    c.in_ok-extend_from_slice.ensures.items (c.in_err-extend_from_slice-2.ensures.items ∙ sym (append-nil c.args.held_items.now.items))).1

pub returns-in_err-push-clause-rows : goal.returns-in_err-push-clause-rows
returns-in_err-push-clause-rows c =
    rw c.in_err-push.ensures.items
    (kept_by c.args.held_tops.now.items c.args.held_items.now.items c.args.rows.now.items c.requires.rows c.extend_from_slice.new.self.items c.extend_from_slice-2.new.self.items c.args.tops.now c.args.items.now
    c.in_ok-extend_from_slice.ensures.items c.in_ok-extend_from_slice-2.ensures.items).0

pub returns-in_err-push-clause-err : goal.returns-in_err-push-clause-err
returns-in_err-push-clause-err c =
    on_err _ (ap (map (given_at c.extend_from_slice.new.self.items c.extend_from_slice-2.new.self.items)) c.in_err-push.ensures.items ∙
    (kept_by c.args.held_tops.now.items c.args.held_items.now.items c.args.rows.now.items c.requires.rows c.extend_from_slice.new.self.items c.extend_from_slice-2.new.self.items c.args.tops.now c.args.items.now
    c.in_ok-extend_from_slice.ensures.items c.in_ok-extend_from_slice-2.ensures.items).1)

pub returns-clause-rows : goal.returns-clause-rows
returns-clause-rows c =
    (more_by c.args.held_tops.now.items c.args.held_items.now.items c.args.rows.now.items c.requires.rows c.args.place c.requires.falls c.extend_from_slice.new.self.items c.extend_from_slice-2.new.self.items c.args.tops.now c.args.items.now
    c.in_ok-extend_from_slice.ensures.items c.in_ok-extend_from_slice-2.ensures.items
    (record { place = c.args.place; first_top = c.len-first_top.result; past_top = c.len.result; first_item = c.len-first_item.result; past_item = c.len-2.result })
    refl (c.len-first_top.ensures ∙ c.args.held_tops.now.ok.0) (c.len.ensures ∙ c.extend_from_slice.new.self.ok.0) (c.len-first_item.ensures ∙ c.args.held_items.now.ok.0) (c.len-2.ensures ∙ c.extend_from_slice-2.new.self.ok.0)
    c.push.new.self.items c.in_ok-push.ensures.items).0

pub returns-clause-ok : goal.returns-clause-ok
returns-clause-ok c =
    (more_by c.args.held_tops.now.items c.args.held_items.now.items c.args.rows.now.items c.requires.rows c.args.place c.requires.falls c.extend_from_slice.new.self.items c.extend_from_slice-2.new.self.items c.args.tops.now c.args.items.now
    c.in_ok-extend_from_slice.ensures.items c.in_ok-extend_from_slice-2.ensures.items
    (record { place = c.args.place; first_top = c.len-first_top.result; past_top = c.len.result; first_item = c.len-first_item.result; past_item = c.len-2.result })
    refl (c.len-first_top.ensures ∙ c.args.held_tops.now.ok.0) (c.len.ensures ∙ c.extend_from_slice.new.self.ok.0) (c.len-first_item.ensures ∙ c.args.held_items.now.ok.0) (c.len-2.ensures ∙ c.extend_from_slice-2.new.self.ok.0)
    c.push.new.self.items c.in_ok-push.ensures.items).1
