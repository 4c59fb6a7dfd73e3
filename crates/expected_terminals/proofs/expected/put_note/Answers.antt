use Rattle.expected_terminals.proofs.Expecting.{note_put}
use Rattle.expected_terminals.proofs.expected.put_note.Goals as goal

pub returns : goal.returns
returns c other h = note_put c.args.notes.now.items c.args.kind c.args.note other h
