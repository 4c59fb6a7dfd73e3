use Rattle.std.proofs.Common.{inl, inr, Some, ap}
use Rattle.expected_terminals.proofs.expected.note_listed.Goals as goal

pub returns-clause-notes : goal.returns-clause-notes
returns-clause-notes c note h = elim (c.put_note.ensures note h) [
  | inl o ↦ inl (c.make_room.ensures.same note o)
  | inr e ↦ inr (ap Some e)
]
