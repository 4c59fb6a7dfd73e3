use Rattle.item_rows.specs.Noted.{ArePlacesNoted}
use Rattle.item_rows.proofs.places.note_asked.Given as goal

abbrev pub invariant-loop-origin : goal.invariant-loop-origin
invariant-loop-origin l = ArePlacesNoted l.dotted.flat l.dotted.rules l.lists l.kernels l.noted.blocks.items
