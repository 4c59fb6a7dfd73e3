use Rattle.std.proofs.Common.{◌≡◌, ℕ, List, length, drop}
use Rattle.forest_laws.specs.Guide.{top_of}
use Rattle.tree_iter.specs.Leads.{AreEnds}
use Rattle.tree_iter.proofs.leads.below_newest.Given as goal

abbrev pub invariant-newest : goal.invariant-newest
invariant-newest l = (ends : List ℕ) → AreEnds l.rows ends → length l.rows ≡ top_of ends → l.top ≡ top_of (drop l.counter ends)
