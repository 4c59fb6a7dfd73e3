use Rattle.std.proofs.Common.{sym, subst, arith}
use Rattle.shared_lists.specs.declared.places.Noted.{Noted}
use Rattle.item_rows.specs.Noted.{ArePlacesNoted}
use Rattle.item_rows.proofs.places.note_asked.Goals as goal
use Rattle.item_rows.proofs.places.note_asked.Goals.{then-origin-len, else-origin-len}

pub note-requires-clause-list : goal.note-requires-clause-list
note-requires-clause-list c = c.requires.held.1.known _ (let t = c.if-origin-len.true in let e = c.len.ensures in omega arith)

pub note-requires-clause-rises : goal.note-requires-clause-rises
note-requires-clause-rises c = (c.requires.held.1.rows _ (let t = c.if-origin-len.true in let e = c.len.ensures in omega arith)).second.rises

pub loop-origin-preserved : goal.loop-origin-preserved
loop-origin-preserved c = elim c.if-origin-len.branch [
  | then-origin-len w ↦ subst (λ (n : Noted). ArePlacesNoted c.args.dotted.now.flat c.args.dotted.now.rules c.args.lists.now c.args.kernels.now n.blocks.items) (sym w.noted-is) w.note.ensures
  | else-origin-len w ↦ subst (λ (n : Noted). ArePlacesNoted c.args.dotted.now.flat c.args.dotted.now.rules c.args.lists.now c.args.kernels.now n.blocks.items) (sym w.noted-is) c.loop-origin.invariant
]

pub returns : goal.returns
returns c = c.loop-origin.invariant
