use Rattle.std.proofs.Common.{◌≡◌, length}
use Rattle.horn_clauses.specs.Gathered.{AreLinks}
use Rattle.horn_clauses.proofs.gathered.links_of.Given as goal

abbrev pub invariant-loop-place : goal.invariant-loop-place
invariant-loop-place l = (length l.last.items ≡ l.count) × AreLinks l.pairs l.place l.last.items l.before.items
