use Rattle.std.proofs.Common.{arith, refl, slice_index}
use Rattle.std.proofs.lemmas.List.Elements.{Contains-get_or}
use Rattle.horn_clauses.proofs.Search.{visit_begun, visit_more}
use Rattle.horn_clauses.proofs.least.visit.Goals as goal

pub loop-i-init : goal.loop-i-init
loop-i-init c = visit_begun c.args.clauses.now c.args.found.now c.args.places.now c.args.row.now c.args.k c.requires.search c.requires.waits

pub advance-requires-clause-number : goal.advance-requires-clause-number
advance-requires-clause-number c = c.requires.row (slice_index c.args.row.now c.loop-i.i-index) (Contains-get_or c.args.row.now c.loop-i.i-index 0 (omega arith))

pub loop-i-preserved : goal.loop-i-preserved
loop-i-preserved c = visit_more c.args.clauses.now c.args.found.now c.args.places.now c.args.row.now c.args.k c.loop-i.i-index (slice_index c.args.row.now c.loop-i.i-index) c.loop-i.found c.loop-i.places c.advance.new.found c.advance.new.places c.requires.place (omega arith) refl c.loop-i.invariant c.in_ok-advance.ensures
