use Rattle.std.proofs.Common.{inl, inr, ◌<◌, ℕ, List, length, Contains, sym, subst}
use Rattle.scanless.specs.declared.notes.Note.{Note}
use Rattle.scanless.specs.Noted.{Noted}
use Rattle.scanless.proofs.Noting.{within_more, told_more}
use Rattle.scanless.proofs.notes.Notes.put.Goals as goal

pub invariant_of-self : goal.invariant_of-self
invariant_of-self c = subst (λ (l : List (List ℕ)). (n : Note) → Contains c.self.inside.notes.items n → n.list < length l) (sym c.in_err-push.ensures.err) c.self.invariant

pub invariant_of-self-2 : goal.invariant_of-self-2
invariant_of-self-2 c =
    within_more c.self.inside.lists c.push.new.self c.args.starts.now c.in_ok-push.ensures.ok c.self.inside.notes.items c.self.invariant c.put_note.new.notes.items
    (record { place = c.args.alike.place; list = c.len-list.result }) c.len-list.ensures c.put_note.ensures

pub returns-clause-lists : goal.returns-clause-lists
returns-clause-lists c = λ place list h.
    elim (told_more c.self.inside.lists c.push.new.self c.args.starts.now c.in_ok-push.ensures.ok c.self.inside.notes.items c.self.invariant c.put_note.new.notes.items
    (record { place = c.args.alike.place; list = c.len-list.result }) c.len-list.ensures c.put_note.ensures place list h) [
      | inl o ↦ inl (subst (λ (v : Noted). Contains v.lists (place, list)) c.self.view_is o)
      | inr same ↦ inr same
    ]
